-- The four truths of a policy, line by line.
use Rattle.std.proofs.Common.{◌≡◌, ℕ, ◌<◌, Bool, not, ◌&&◌, ◌||◌, List, [], ◌∷◌, length, refl, ap, ◌∙◌, arith}
use Rattle.std.specs.Prelude.{◌==◌}
use Rattle.std.proofs.lemmas.Bool.Decides.{nat_tests}
use Rattle.values.specs.declared.value.Value.{Value}
use Rattle.operators.specs.Classes.{is_true, is_false, is_missing}
use Rattle.combining.specs.declared.decision.Decision.{Decision}
use Rattle.combining.specs.declared.decision.Decision.TheVariants.{Permit, Deny, NotApplicable, Indeterminate}
use Rattle.combining.specs.Table.{place}
use Rattle.conditions.specs.declared.condition.Test.TheVariants as t
use Rattle.conditions.specs.declared.places.Places.{Places}
use Rattle.conditions.specs.declared.truth.Truth.{Truth}
use Rattle.conditions.specs.Meaning.{passes}
use Rattle.conditions.specs.Places.{Grows, Inside, holds, value_in}
use Rattle.conditions.specs.States.{truth_at, AllInside, Only}
use Rattle.conditions.specs.Limited.{limited}
use Rattle.conditions.proofs.Growing.{grows_both, holds_kept}
use Rattle.conditions.proofs.Numbers.{each_below_four}

-- the numbers of the four decisions against that of the limited one
permits : (v : Value) (f g : Bool) (d : Decision) → ((is_true v && (0 == place d)) && f) ≡ (0 == place (limited v f g d))
permits v f g d = grind (arith, nat_tests)

denies : (v : Value) (f g : Bool) (d : Decision) → ((is_true v && (1 == place d)) && g) ≡ (1 == place (limited v f g d))
denies v f g d = grind (arith, nat_tests)

passed : (v : Value) (f g : Bool) (d : Decision) → ((is_false v || is_missing v) || (is_true v && (2 == place d))) ≡ (2 == place (limited v f g d))
passed v f g d = grind (arith, nat_tests)

others : (d : Decision) → not (((0 == place d) || (1 == place d)) || (2 == place d)) ≡ (3 == place d)
others Permit = refl
others Deny = refl
others NotApplicable = refl
others Indeterminate = refl

-- p1 to p7 are p with one more truth each
module _ {p p1 p2 p3 p4 p5 p6 p7 : Places} (ds : List Truth) (target : ℕ) (f g applies absent permit deny both away rest : Truth)
    (ld : length ds ≡ 4) (id : AllInside p ds) (it : target < p.used) (if : Inside p f) (ig : Inside p g)
    (g1 : Grows p p1 1) (g2 : Grows p1 p2 1) (g3 : Grows p2 p3 2) (g4 : Grows p3 p4 2) (g5 : Grows p4 p5 1) (g6 : Grows p5 p6 1) (g7 : Grows p6 p7 3)
    (w1 : Inside p1 applies) (w2 : Inside p2 absent) (w3 : Inside p3 permit) (w4 : Inside p4 deny) (w6 : Inside p6 away) where
  pub limits : (rs : List Value)
      → holds p1 rs applies ≡ passes t.True (value_in p rs target)
      → holds p2 rs absent ≡ passes t.Absent (value_in p1 rs target)
      → holds p3 rs permit ≡ ((holds p2 rs applies && holds p2 rs (truth_at ds 0)) && holds p2 rs f)
      → holds p4 rs deny ≡ ((holds p3 rs applies && holds p3 rs (truth_at ds 1)) && holds p3 rs g)
      → holds p5 rs both ≡ (holds p4 rs applies && holds p4 rs (truth_at ds 2))
      → holds p6 rs away ≡ (holds p5 rs absent || holds p5 rs both)
      → holds p7 rs rest ≡ not ((holds p6 rs permit || holds p6 rs deny) || holds p6 rs away)
      → (d : Decision) → Only p rs ds (place d)
      → Only p7 rs (permit ∷ deny ∷ away ∷ rest ∷ []) (place (limited (value_in p rs target) (holds p rs f) (holds p rs g) d))
  limits rs s1 s2 s3 s4 s5 s6 s7 d o =
      let v : Value = value_in p rs target in
      let x : ℕ = place (limited v (holds p rs f) (holds p rs g) d) in
      let h2 = grows_both g1 g2 in
      let h3 = grows_both h2 g3 in
      let h4 = grows_both h3 g4 in
      let i0 = id 0 (omega (arith, ld)) in
      let i1 = id 1 (omega (arith, ld)) in
      let i2 = id 2 (omega (arith, ld)) in
      let o0 = o 0 (omega (arith, ld)) in
      let o1 = o 1 (omega (arith, ld)) in
      let o2 = o 2 (omega (arith, ld)) in
      let a : holds p3 rs permit ≡ (0 == x) =
      cc (s3, holds_kept g2 rs applies w1, s1, holds_kept h2 rs (truth_at ds 0) i0, o0, holds_kept h2 rs f if) ∙ permits v (holds p rs f) (holds p rs g) d in
      let b : holds p4 rs deny ≡ (1 == x) =
      cc (s4, holds_kept (grows_both g2 g3) rs applies w1, s1, holds_kept h3 rs (truth_at ds 1) i1, o1, holds_kept h3 rs g ig) ∙ denies v (holds p rs f) (holds p rs g) d in
      let k : holds p5 rs absent ≡ (is_false v || is_missing v) = holds_kept (grows_both g3 (grows_both g4 g5)) rs absent w2 ∙ s2 ∙ ap (passes t.Absent) (g1.kept rs target it) in
      let e : holds p5 rs both ≡ (is_true v && (2 == place d)) = cc (s5, holds_kept (grows_both g2 (grows_both g3 g4)) rs applies w1, s1, holds_kept h4 rs (truth_at ds 2) i2, o2) in
      let c : holds p6 rs away ≡ (2 == x) = cc (s6, k, e) ∙ passed v (holds p rs f) (holds p rs g) d in
      let z : holds p7 rs rest ≡ (3 == x) =
      cc (s7, holds_kept (grows_both g4 (grows_both g5 g6)) rs permit w3, a, holds_kept (grows_both g5 g6) rs deny w4, b, c) ∙ others (limited v (holds p rs f) (holds p rs g) d) in
      each_below_four (λ n. holds p7 rs (truth_at (permit ∷ deny ∷ away ∷ rest ∷ []) n) ≡ (n == x))
      (holds_kept (grows_both g4 (grows_both g5 (grows_both g6 g7))) rs permit w3 ∙ a)
      (holds_kept (grows_both g5 (grows_both g6 g7)) rs deny w4 ∙ b)
      (holds_kept g7 rs away w6 ∙ c)
      z
