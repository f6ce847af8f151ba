-- A list in the first places of an array, whose other places hold a given member.
use Rattle.std.specs.Prelude.{◌≡◌, ℕ, ◌-◌, ◌<◌, ◌≤◌, ◌++◌, List, [], ◌∷◌, take, length, replicate}
use Rattle.std.proofs.Common.{length-take-le, arith}

-- xs in n places, x in those after it
abbrev pub padded : {A : Type 0} → ℕ → A → List A → List A
padded n x xs = xs ++ replicate (n - length xs) x

-- n places, of which the first k count and the others hold x
abbrev pub IsPadded : {A : Type 0} → ℕ → A → List A → ℕ → Type 0
IsPadded n x xs k = (k ≤ n) × (length xs ≡ n) × (xs ≡ padded n x (take k xs))

-- xs in n places, its first member in those after it
abbrev pub filled : {A : Type 0} → ℕ → List A → List A
filled n [] = []
filled n (x ∷ xs) = padded n x (x ∷ xs)

-- n places, of which the first k count, at least one, and the others hold the first
abbrev pub IsFilled : {A : Type 0} → ℕ → List A → ℕ → Type 0
IsFilled n xs k = (0 < k) × (k ≤ n) × (length xs ≡ n) × (xs ≡ filled n (take k xs))

pub taken_length : {A : Type 0} (n : ℕ) (xs : List A) (k : ℕ) → k ≤ n → length xs ≡ n → length (take k xs) ≡ k
taken_length n xs k within long = length-take-le k xs (omega (arith, within, long))
