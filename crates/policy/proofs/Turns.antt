-- One turn of the recursion over the lines of a file.
use Rattle.std.proofs.Common.{◌≡◌, ℕ, suc, ◌+◌, ◌-◌, ◌<◌, ◌≤◌, false, eqb, List, [], ◌∷◌, ◌++◌, length, Ok, Err, Result, sym, refl, ap, ◌∙◌, arith, Bor}
use Rattle.std.proofs.lemmas.List.{length_push}
use Rattle.std.proofs.lemmas.Bool.Decides.{nat_tests}
use Rattle.refusals.specs.Results.{bind_r}
use Rattle.refusals.specs.Places.{at_line}
use Rattle.refusals.specs.declared.place.Rejection.{Rejection}
use Rattle.policy.specs.declared.line.Line.{Line}
use Rattle.policy.specs.Check.{Marks, body_of, step_of, stepped}

abbrev Read : Type 0
Read = Result (List Line) Rejection

abbrev Step : Type 0
Step = Line × Marks × List ℕ

-- the body at one line more, by what that line gave
from : ℕ → List Line → Result Step Rejection → Read
from left ls r = bind_r r (λ s. body_of left (ls ++ s.0 ∷ []) s.1 s.2)

pub body_more : (left : ℕ) (ls : List Line) (ms : Marks) (xs : List ℕ) → 0 < length xs → body_of (suc left) ls ms xs ≡ bind_r (at_line (length ls + 1) (step_of ls ms xs)) (λ s. body_of left (ls ++ s.0 ∷ []) s.1 s.2)
body_more left ls ms [] h = absurd (omega arith)
body_more left ls ms (x ∷ xs) h = refl

module _ (ls : List Line) (ms : Marks) (xs : List ℕ) (want : Read) (some : eqb (length xs) 0 ≡ false) (inv : body_of (256 - length ls) ls ms xs ≡ want) where
  turned : (n : ℕ) → n ≡ length ls + 1 → n ≤ 256 → from (256 - n) ls (at_line n (step_of ls ms xs)) ≡ want
  unfolding from
  turned n e h =
      let filled : 0 < length xs = grind (arith, nat_tests) in
      let z : suc (256 - n) ≡ 256 - length ls = omega arith in
      ap (λ k. from (256 - n) ls (at_line k (step_of ls ms xs))) e ∙ sym (body_more (256 - n) ls ms xs filled) ∙ ap (λ k. body_of k ls ms xs) z ∙ inv

  pub stops : (n : ℕ) → n ≡ length ls + 1 → n ≤ 256 → (r : Result (Line × Bor (List ℕ)) Rejection) (after : Marks) → stepped r after ≡ at_line n (step_of ls ms xs)
      → (e : Rejection) → Err e ≡ r → Err e ≡ want
  unfolding from
  stops n is h r after step e at =
      ap (from (256 - n) ls) (ap (λ q. stepped q after) at ∙ step) ∙ turned n is h

  pub goes : (n : ℕ) → n ≡ length ls + 1 → n ≤ 256 → (r : Result (Line × Bor (List ℕ)) Rejection) (after : Marks) → stepped r after ≡ at_line n (step_of ls ms xs)
      → (p : Line × Bor (List ℕ)) → Ok p ≡ r → (more : List Line) → more ≡ ls ++ p.0 ∷ [] → body_of (256 - length more) more after p.1.now ≡ want
  unfolding from
  goes n is h r after step p at more pushed =
      let l = length_push ls p.0 in
      let y : 256 - length more ≡ 256 - n = ap (λ k. 256 - k) (ap length pushed ∙ l ∙ sym is) in
      (λ i. body_of (y i) (pushed i) after p.1.now)
      ∙ ap (from (256 - n) ls) (ap (λ q. stepped q after) at ∙ step) ∙ turned n is h
