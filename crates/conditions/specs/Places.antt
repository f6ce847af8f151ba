-- The memory of condition lines, and how it grows.
use Rattle.std.specs.Prelude.{◌≡◌, ℕ, ◌+◌, ◌<◌, ◌≤◌, Bool, List, take, vec_items, vec_len}
use Rattle.values.specs.declared.value.Value.{Value}
use Rattle.operators.specs.Classes.{is_true}
use Rattle.conditions.specs.declared.condition.Condition.{Condition}
use Rattle.conditions.specs.declared.places.Places.{Places}
use Rattle.conditions.specs.declared.truth.Truth.{Truth}
use Rattle.conditions.specs.declared.truth.Truth.TheVariants.{Known, At}
use Rattle.conditions.specs.Meaning.{value_at, values_of, line_at}

-- the lines that were written
abbrev pub lines_in : Places → List Condition
lines_in p = take p.used (vec_items p.lines)

-- their values
unfoldable pub values_in : Places → List Value → List Value
values_in p readings = values_of readings (lines_in p)

abbrev pub value_in : Places → List Value → ℕ → Value
value_in p readings k = value_at (values_in p readings) k

-- what stands in a place, written or not
abbrev pub place_in : Places → ℕ → Condition
place_in p k = line_at (vec_items p.lines) k

abbrev pub size_of : Places → ℕ
size_of p = vec_len p.lines

-- n more lines can be written: there are places, and at most 8,192 lines, 32 for each of 256 policy lines
pub record Roomy (p : Places) (n : ℕ) : Type 0 where
  pub places : p.used + n ≤ size_of p
  pub numbers : p.used + n ≤ 8192

-- q is p with at most n lines more: the lines of p keep their values, and the places after q's lines what they hold
pub record Grows (p q : Places) (n : ℕ) : Type 0 where
  pub up : p.used ≤ q.used
  pub most : q.used ≤ p.used + n
  pub size : size_of q ≡ size_of p
  pub kept : (readings : List Value) (k : ℕ) → k < p.used → value_in q readings k ≡ value_in p readings k
  pub rest : (k : ℕ) → q.used ≤ k → place_in q k ≡ place_in p k

abbrev pub holds : Places → List Value → Truth → Bool
holds p readings (Known b) = b
holds p readings (At k) = is_true (value_in p readings k)

-- a truth that is known, or that of a line that was written
abbrev pub Inside : Places → Truth → Type 0
Inside p (Known b) = Unit {0}
Inside p (At k) = k < p.used
