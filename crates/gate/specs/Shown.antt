-- The book that a gate shows.
use Rattle.std.specs.Prelude.{◌≡◌, ℕ, Bool, true, false, List, Some, None, Err, Option, Result}
use Rattle.values.specs.declared.value.Value.{Value}
use Rattle.refusals.specs.declared.cause.Cause.TheVariants.{NoPolicy}
use Rattle.refusals.specs.declared.place.Rejection.{Rejection}
use Rattle.policy.specs.declared.line.Line.{Line}
use Rattle.policy.specs.Accepted.{lines_of}
use Rattle.policy.specs.Spelt.{spelt}
use Rattle.writing.specs.Written.{Written}
use Rattle.combining.specs.Combined.{Response}
use Rattle.trees.specs.declared.duty.Duty.{Duty}
use Rattle.trees.specs.Expressions.{Map}
use Rattle.trees.specs.Known.{Reads}
use Rattle.deciding.specs.Answer.{response_of, readings_in}
use Rattle.compiling.specs.declared.memory.Conditions.{Conditions}
use Rattle.compiling.specs.Compiled.{places_of}
use Rattle.enforcement.specs.declared.bias.Bias.{Bias}
use Rattle.gate.specs.declared.gate.Gate.{Gate}
use Rattle.gate.specs.Phases.{has_policy, has_readings, has_response}
use Rattle.gate.specs.Book.{Book, out_of_order}

abbrev pub only_if : {A : Type 0} → Bool → A → Option A
only_if true x = Some x
only_if false x = None

-- what a gate holds
abbrev pub bias_of : Gate → Bias
bias_of g = g.bias

abbrev pub conditions_of : Gate → Conditions
conditions_of g = g.conditions

abbrev pub places_in : Gate → ℕ
places_in g = places_of g.conditions

-- the lines of the policy in force
abbrev pub gate_lines : Gate → List Line
gate_lines g = lines_of g.policy

-- the file of the policy in force
abbrev pub file_of : Gate → Option (List ℕ)
file_of g = only_if (has_policy g.phase) (spelt (gate_lines g))

-- the readings, by line number
abbrev pub gate_readings : Gate → List Value
gate_readings g = readings_in g.evaluator

-- the response that waits
abbrev pub response_in : Gate → Option (Response Duty)
response_in g = only_if (has_response g.phase) (response_of g.answer)

-- the book that a gate shows, if m is the map that it has read
abbrev pub book_of : Gate → Map → Book
book_of g m = record { bias = g.bias; places = places_of g.conditions; policy = file_of g; readings = only_if (has_readings g.phase) m; response = response_in g }

-- the readings that a gate holds are those of m
abbrev pub Agrees : Gate → Map → Type 0
Agrees g m = has_readings g.phase ≡ true → Reads (gate_lines g) (gate_readings g) m

-- the gate shows the book, and has read the book's readings
abbrev pub Shows : Gate → Book → Type 0
Shows g b = (m : Map) × (b ≡ book_of g m) × Agrees g m

-- all that g holds is in h; the spare memory, in which nothing is held, may have been read into
pub record Same (g h : Gate) : Type 0 where
  pub bias : h.bias ≡ g.bias
  pub phase : h.phase ≡ g.phase
  pub policy : h.policy ≡ g.policy
  pub conditions : h.conditions ≡ g.conditions
  pub evaluator : h.evaluator ≡ g.evaluator
  pub answer : h.answer ≡ g.answer

-- write back: 12, 11; the file at the front of the memory, whose other bytes stay
abbrev pub WrittenBack : Option (List ℕ) → List ℕ → List ℕ → Result ℕ Rejection → Type 0
WrittenBack None d after r = (r ≡ Err (out_of_order NoPolicy)) × (after ≡ d)
WrittenBack (Some file) d after r = Written file d after r
