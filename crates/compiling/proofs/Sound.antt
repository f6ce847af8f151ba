-- What a line names: lines above it, of the family that each place asks for.
use Rattle.std.proofs.Common.{◌≡◌, ℕ, ◌<◌, true, false, List, [], ◌∷◌, ◌++◌, refl, sym, true≢false, arith}
use Rattle.std.specs.Prelude.{◌&&◌, nat_lt}
use Rattle.std.specs.Cmp.{first_so, second_so}
use Rattle.std.proofs.lemmas.Bool.Decides.{nat_tests}
use Rattle.policy.specs.declared.line.Line.{Line}
use Rattle.policy.specs.declared.line.Family.{Family}
use Rattle.policy.specs.declared.line.Family.TheVariants.{Expression, Duty, Item, Policy}
use Rattle.policy.specs.Lines.{family_of, same_family, line_at, Reference}
use Rattle.policy.specs.Tree.{is_sound, all_sound}

-- a fact about all four families
at_family : (P : Family → Type 0) → P Expression × P Duty × P Item × P Policy → (f : Family) → P f
at_family P h Expression = h.0
at_family P h Duty = h.1
at_family P h Item = h.2
at_family P h Policy = h.3

not_same : {f g : Family} → false ≡ true → f ≡ g
not_same h = absurd (true≢false (sym h))

pub same_family_is : (f g : Family) → same_family f g ≡ true → f ≡ g
same_family_is Expression = at_family (λ g. same_family Expression g ≡ true → Expression ≡ g) (λ h. refl, not_same, not_same, not_same)
same_family_is Duty = at_family (λ g. same_family Duty g ≡ true → Duty ≡ g) (not_same, λ h. refl, not_same, not_same)
same_family_is Item = at_family (λ g. same_family Item g ≡ true → Item ≡ g) (not_same, not_same, λ h. refl, not_same)
same_family_is Policy = at_family (λ g. same_family Policy g ≡ true → Policy ≡ g) (not_same, not_same, not_same, λ h. refl)

-- the lines that are named stand above line n and have the family that is asked for
abbrev pub Sound : List Line → ℕ → List Reference → Type 0
Sound ls n [] = Unit {0}
Sound ls n (r ∷ rs) = ((0 < r.line) × (r.line < n) × (family_of (line_at ls r.line) ≡ r.family)) × Sound ls n rs

pub sound_of : (ls : List Line) (n : ℕ) (rs : List Reference) → all_sound ls n rs ≡ true → Sound ls n rs
sound_of ls n [] h = tt
sound_of ls n (r ∷ rs) h =
    let s : is_sound ls n r ≡ true = first_so (is_sound ls n r) (all_sound ls n rs) h in
    let t = second_so (nat_lt 0 r.line) (nat_lt r.line n && same_family (family_of (line_at ls r.line)) r.family) s in
    let lo : 0 < r.line = grind (arith, nat_tests) in
    let hi : r.line < n = grind (arith, nat_tests) in
    ((lo, hi, same_family_is _ _ (second_so (nat_lt r.line n) (same_family (family_of (line_at ls r.line)) r.family) t)), sound_of ls n rs (second_so (is_sound ls n r) (all_sound ls n rs) h))

pub sound_append : (ls : List Line) (n : ℕ) (rs ss : List Reference) → Sound ls n (rs ++ ss) → Sound ls n rs × Sound ls n ss
sound_append ls n [] ss h = (tt, h)
sound_append ls n (r ∷ rs) ss h = let b = sound_append ls n rs ss h.1 in ((h.0, b.0), b.1)
