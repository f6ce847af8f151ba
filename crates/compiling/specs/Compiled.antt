-- Compiled conditions: which decision they name, and what compiling leaves.
use Rattle.std.specs.Prelude.{◌≡◌, ℕ, ◌*◌, ◌<◌, ◌≤◌, Bool, cond, List, map, Ok, Err, Result, nat_le}
use Rattle.values.specs.declared.value.Value.{Value}
use Rattle.values.specs.declared.value.Value.TheVariants.{Missing as missing}
use Rattle.refusals.specs.declared.cause.Cause.TheVariants.{TooSmall}
use Rattle.refusals.specs.declared.place.Rejection.{Rejection}
use Rattle.policy.specs.declared.line.Line.{Line}
use Rattle.combining.specs.declared.decision.Decision.{Decision}
use Rattle.combining.specs.Decisions.{same_decision}
use Rattle.trees.specs.Expressions.{Map}
use Rattle.trees.specs.Known.{wanted}
use Rattle.conditions.specs.declared.condition.Condition.{Condition}
use Rattle.conditions.specs.Meaning.{is_true_at}
use Rattle.conditions.specs.Places.{values_in, place_in, size_of}
use Rattle.conditions.specs.Pass.{mark_of}
use Rattle.compiling.specs.declared.memory.Conditions.{Conditions}

-- how many places there are, how many of them are written, and what stands in one
abbrev pub places_of : Conditions → ℕ
places_of c = size_of c.places

abbrev pub written_in : Conditions → ℕ
written_in c = c.places.used

abbrev pub condition_at : Conditions → ℕ → Condition
condition_at c k = place_in c.places k

-- the condition that is marked with the decision d holds over the readings: it is true
abbrev pub holds_for : Conditions → List Value → Decision → Bool
holds_for c readings d = is_true_at (values_in c.places readings) (mark_of c.marks d)

-- of the four marked conditions the one that is marked with d holds, and no other
abbrev pub Names : Conditions → List Value → Decision → Type 0
Names c readings d = (e : Decision) → holds_for c readings e ≡ same_decision e d

-- the readings that a map gives: each attr line has the map's value for its name, and the others read nothing
abbrev pub readings_by : Map → List Line → List Value
readings_by m ls = map (λ (x : Line). wanted m x missing) ls

-- compiling n lines needs 32 places for each
abbrev pub compiles : ℕ → ℕ → Result (Unit {0}) Rejection
compiles places n = cond (nat_le (32 * n) places) (Ok tt) (Err (record { cause = TooSmall; line = 0; field = 0 }))

-- b has the conditions of n lines in the places of a: at most 32 a line are written, the marked ones among them, and the others hold what they held
pub record Compiled (n : ℕ) (a b : Conditions) : Type 0 where
  pub few : written_in b ≤ 32 * n
  pub places : places_of b ≡ places_of a
  pub marked : (d : Decision) → mark_of b.marks d < written_in b
  pub others : (k : ℕ) → written_in b ≤ k → condition_at b k ≡ condition_at a k
