-- What comparing two texts and looking for a member answer.
use Rattle.std.proofs.Common.{◌≡◌, ℕ, suc, ◌-◌, Bool, eqb, ◌&&◌, ◌||◌, List, [], ◌∷◌, ◌++◌, length, replicate, ℤ, pos, negsuc, Decides, refl, ap, ◌∙◌, arith}
use Rattle.std.specs.List.{list_any}
use Rattle.std.specs.Ordering.{int_eq}
use Rattle.std.specs.Str.{bytes_eq}
use Rattle.std.proofs.lemmas.Bool.Decides.{nat_tests, same_from_decides, Decides-int_eq}
use Rattle.std.proofs.lemmas.Cmp.{nat_list_eq_equiv}
use Rattle.std.proofs.lemmas.Slice.Eq.{bytes_eq-Decides}
use Rattle.values.specs.Filled.{padded}
use Rattle.operators.specs.Operators.{among, same_number}

-- xs and ys, each with more bytes after it, which are the same where xs and ys are equally long
filled_up : (xs ys more others : List ℕ) → (length xs ≡ length ys → more ≡ others) → (bytes_eq (xs ++ more) (ys ++ others) && eqb (length xs) (length ys)) ≡ bytes_eq xs ys
filled_up [] [] more others h = let e = h refl in grind (arith, nat_tests, bytes_eq-Decides)
filled_up [] (y ∷ ys) more others h = grind (arith, nat_tests)
filled_up (x ∷ xs) [] more others h = grind (arith, nat_tests)
filled_up (x ∷ xs) (y ∷ ys) more others h = let e = filled_up xs ys more others (λ k. h (ap suc k)) in grind (arith, nat_tests, e)

-- what `==` compares of two texts: the places of their memory, and how many of these count
abbrev pub eq_text : List ℕ → List ℕ → Bool
eq_text xs ys = bytes_eq (padded 16 0 xs) (padded 16 0 ys) && eqb (length xs) (length ys)

pub same_text : (xs ys : List ℕ) → eq_text xs ys ≡ bytes_eq xs ys
same_text xs ys = filled_up xs ys _ _ (ap (λ k. replicate (16 - k) 0))

pub same_text-turned : (xs ys : List ℕ) → eq_text ys xs ≡ bytes_eq xs ys
same_text-turned xs ys = same_text ys xs ∙ nat_list_eq_equiv.symm ys xs

same_number-decides : (x y : ℤ) → Decides (same_number x y) (y ≡ x)
same_number-decides (pos x) (pos y) = grind (arith, nat_tests)
same_number-decides (pos x) (negsuc y) = grind (arith, nat_tests)
same_number-decides (negsuc x) (pos y) = grind (arith, nat_tests)
same_number-decides (negsuc x) (negsuc y) = grind (arith, nat_tests)

pub same_number-int_eq : (x y : ℤ) → int_eq y x ≡ same_number x y
same_number-int_eq x y = same_from_decides (int_eq y x) (same_number x y) (Decides-int_eq y x) (same_number-decides x y)

-- what `contains` answers, where `eq` compares as `same` does
pub contained : {A : Type 0} (eq same : A → A → Bool) → ((x y : A) → eq y x ≡ same x y) → (x : A) (ys : List A) → list_any (λ y. eq y x) ys ≡ among same x ys
contained eq same h x [] = refl
contained eq same h x (y ∷ ys) = ap (λ t. t || list_any (λ z. eq z x) ys) (h x y) ∙ ap (λ t. same x y || t) (contained eq same h x ys)
