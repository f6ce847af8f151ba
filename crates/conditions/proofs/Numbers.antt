-- Facts about few numbers, one after the other.
use Rattle.std.specs.Prelude.{◌==◌, cond}
use Rattle.std.proofs.Common.{◌≡◌, ℕ, zero, suc, ◌+◌, ◌<◌, ◌≤◌, List, [], ◌∷◌, take, refl, ap, ◌∙◌, length, slice_index_or, subst, arith}
use Rattle.std.proofs.lemmas.Bool.Decides.{nat_tests}
use Rattle.std.proofs.lemmas.List.{get_or_default}
use Rattle.combining.specs.declared.decision.Decision.{Decision}
use Rattle.combining.specs.declared.decision.Decision.TheVariants.{Permit, Deny, NotApplicable, Indeterminate}
use Rattle.combining.specs.Table.{place}
use Rattle.conditions.specs.States.{Below, others_in, others_of}

pub each_below_four : (P : ℕ → Type 0) → P 0 → P 1 → P 2 → P 3 → (t : ℕ) → t < 4 → P t
each_below_four P a b c d zero h = a
each_below_four P a b c d (suc zero) h = b
each_below_four P a b c d (suc (suc zero)) h = c
each_below_four P a b c d (suc (suc (suc zero))) h = d
each_below_four P a b c d (suc (suc (suc (suc t)))) h = absurd (omega arith)

-- a row with an entry for each decision, all below n
pub below_by_decision : (n : ℕ) (row : List ℕ) (x : ℕ) → length row ≡ 4 → ((d : Decision) → slice_index_or row (place d) x < n) → Below n row
below_by_decision n row x l h i u =
    let at : (d : Decision) → place d < 4 → slice_index_or row (place d) 0 < n = λ d v. subst (λ y. y < n) (get_or_default row (place d) x 0 (omega (arith, l, v))) (h d) in
    each_below_four (λ i. slice_index_or row i 0 < n) (at Permit (omega arith)) (at Deny (omega arith)) (at NotApplicable (omega arith)) (at Indeterminate (omega arith)) i (omega (arith, l, u))

pub place_below : (d : Decision) → place d < 4
place_below Permit = omega arith
place_below Deny = omega arith
place_below NotApplicable = omega arith
place_below Indeterminate = omega arith

-- counting the entries of a row that are not r, from the first
pub others_more : (r : ℕ) (xs : List ℕ) (i : ℕ) → i < length xs → others_in r (take (i + 1) xs) ≡ others_in r (take i xs) + cond (slice_index_or xs i 0 == r) 0 1
others_more r [] i h = absurd (omega arith)
others_more r (x ∷ xs) zero h = omega arith
others_more r (x ∷ xs) (suc i) h = let e = others_more r xs i (omega arith) in let s : suc i + 1 ≡ suc (i + 1) = omega arith in ap (λ n. others_in r (take n (x ∷ xs))) s ∙ omega (arith, e)

pub others_all : (r : ℕ) (xs : List ℕ) (i : ℕ) → length xs ≤ i → others_in r (take i xs) ≡ others_in r xs
others_all r [] zero h = refl
others_all r [] (suc i) h = refl
others_all r (x ∷ xs) zero h = absurd (omega arith)
others_all r (x ∷ xs) (suc i) h = ap (λ n. cond (x == r) 0 1 + n) (others_all r xs i (omega arith))

pub others_part : (r : ℕ) (xs : List ℕ) (i : ℕ) → i < length xs → others_in r (take i xs) + cond (slice_index_or xs i 0 == r) 0 1 ≤ others_in r xs
others_part r [] i h = absurd (omega arith)
others_part r (x ∷ xs) zero h = omega arith
others_part r (x ∷ xs) (suc i) h = let e = others_part r xs i (omega arith) in omega (arith, e)

pub others_few : (r : ℕ) (xs : List ℕ) → others_in r xs ≤ length xs
others_few r [] = omega arith
others_few r (x ∷ xs) = let e = others_few r xs in grind (arith, nat_tests)

-- the same of rows
pub rows_more : (r : ℕ) (rows : List (List ℕ)) (i : ℕ) → i < length rows → others_of r (take (i + 1) rows) ≡ others_of r (take i rows) + others_in r (slice_index_or rows i [])
rows_more r [] i h = absurd (omega arith)
rows_more r (xs ∷ rows) zero h = omega arith
rows_more r (xs ∷ rows) (suc i) h = let e = rows_more r rows i (omega arith) in let s : suc i + 1 ≡ suc (i + 1) = omega arith in ap (λ n. others_of r (take n (xs ∷ rows))) s ∙ omega (arith, e)

pub rows_part : (r : ℕ) (rows : List (List ℕ)) (i : ℕ) → i < length rows → others_of r (take i rows) + others_in r (slice_index_or rows i []) ≤ others_of r rows
rows_part r [] i h = absurd (omega arith)
rows_part r (xs ∷ rows) zero h = omega arith
rows_part r (xs ∷ rows) (suc i) h = let e = rows_part r rows i (omega arith) in omega (arith, e)

pub rows_all : (r : ℕ) (rows : List (List ℕ)) (i : ℕ) → length rows ≤ i → others_of r (take i rows) ≡ others_of r rows
rows_all r [] zero h = refl
rows_all r [] (suc i) h = refl
rows_all r (xs ∷ rows) zero h = absurd (omega arith)
rows_all r (xs ∷ rows) (suc i) h = ap (λ n. others_in r xs + n) (rows_all r rows i (omega arith))
