-- An algorithm whose state is a count: permit if at least two children permit, else not-app.
use Rattle.std.specs.Prelude.{◌≡◌, ℕ, ◌+◌, true, nat_le, cond, min, List, [], ◌∷◌, ◌++◌}
use Rattle.std.proofs.Common.{refl, ap, ◌∙◌, sym, true≢false, inl, inr, arith}
use Rattle.std.proofs.lemmas.Bool.{le-leb}
use Rattle.std.proofs.lemmas.Bool.Decides.{leb_tells}
use Rattle.combining.specs.declared.decision.Decision.{Decision}
use Rattle.combining.specs.declared.decision.Decision.TheVariants.{Permit, Deny, NotApplicable, Indeterminate}
use Rattle.combining.specs.Decisions.{is_permit}
use Rattle.combining.specs.Wording.{Wording, FinalStays}

abbrev pub one_if_permit : Decision → ℕ
one_if_permit d = cond (is_permit d) 1 0

abbrev pub permits : List Decision → ℕ
permits [] = 0
permits (d ∷ ds) = one_if_permit d + permits ds

abbrev pub decided : ℕ → Decision
decided n = cond (nat_le 2 n) Permit NotApplicable

abbrev pub by_two : Wording
by_two = record { decision = λ ds. decided (permits ds); is_final = is_permit; joins = true }

-- the count stops at two
abbrev pub Counted : ℕ → List Decision → Type 0
Counted n ds = n ≡ min 2 (permits ds)

pub none_more : (d : Decision) → (d ≡ Permit → ⊥) → one_if_permit d ≡ 0
none_more Permit h = absurd (h refl)
none_more Deny h = refl
none_more NotApplicable h = refl
none_more Indeterminate h = refl

pub permits_more : (ds : List Decision) (d : Decision) → permits (ds ++ d ∷ []) ≡ permits ds + one_if_permit d
permits_more [] d = omega arith
permits_more (x ∷ ds) d = let e = permits_more ds d in omega (arith, e)

decided_more : (n k : ℕ) → is_permit (decided n) ≡ true → decided (n + k) ≡ decided n
decided_more n k h = elim (leb_tells 2 n) [
  | inl t ↦ let u : nat_le 2 (n + k) ≡ true = le-leb 2 (n + k) (let l = t.1 in omega (arith, l)) in ap (λ b. cond b Permit NotApplicable) (u ∙ sym t.0)
  | inr f ↦ absurd (true≢false (sym h ∙ ap (λ b. is_permit (cond b Permit NotApplicable)) f.0))
]

pub stays_by_two : FinalStays by_two
stays_by_two ds d h = ap decided (permits_more ds d) ∙ decided_more (permits ds) (one_if_permit d) h
