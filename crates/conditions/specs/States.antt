-- Truths of which one holds: those of a decision or of a running state, by number.
use Rattle.std.specs.Prelude.{◌≡◌, ℕ, ◌+◌, ◌<◌, false, cond, List, [], ◌∷◌, ◌==◌, length, slice_index_or}
use Rattle.values.specs.declared.value.Value.{Value}
use Rattle.conditions.specs.declared.places.Places.{Places}
use Rattle.conditions.specs.declared.truth.Truth.{Truth}
use Rattle.conditions.specs.declared.truth.Truth.TheVariants.{Known}
use Rattle.conditions.specs.Places.{holds, Inside}

abbrev pub truth_at : List Truth → ℕ → Truth
truth_at ts t = slice_index_or ts t (Known false)

abbrev pub AllInside : Places → List Truth → Type 0
AllInside p ts = (t : ℕ) → t < length ts → Inside p (truth_at ts t)

-- of the truths ts number s holds, and no other
abbrev pub Only : Places → List Value → List Truth → ℕ → Type 0
Only p readings ts s = (t : ℕ) → t < length ts → holds p readings (truth_at ts t) ≡ (t == s)

-- each number of a row is below n
abbrev pub Below : ℕ → List ℕ → Type 0
Below n row = (i : ℕ) → i < length row → slice_index_or row i 0 < n

-- how many entries of a row, and of rows, are not r
abbrev pub others_in : ℕ → List ℕ → ℕ
others_in r [] = 0
others_in r (x ∷ xs) = cond (x == r) 0 1 + others_in r xs

abbrev pub others_of : ℕ → List (List ℕ) → ℕ
others_of r [] = 0
others_of r (xs ∷ rows) = others_in r xs + others_of r rows
