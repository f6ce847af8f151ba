-- An accepted policy's lines and what they read: the parts that they stand for.
use Rattle.std.specs.Prelude.{ℕ, ◌<◌, ◌≤◌, List, ◌∷◌, map, length, Some, None, Option}
use Rattle.values.specs.declared.value.Value.{Value}
use Rattle.values.specs.declared.value.Value.TheVariants.{Error as error}
use Rattle.policy.specs.declared.line.Line.{Line}
use Rattle.policy.specs.declared.line.Line.TheVariants as l
use Rattle.policy.specs.declared.line.Force.{Force}
use Rattle.policy.specs.declared.line.Force.TheVariants.{May}
use Rattle.policy.specs.Lines.{line_at}
use Rattle.combining.specs.Combined.{Response}
use Rattle.trees.specs.Expressions.{value_of}
use Rattle.trees.specs.declared.duty.Duty.{Duty}
use Rattle.trees.specs.Duties.{Duties}
use Rattle.trees.specs.Policies.{respond, Items, first, rest}
use Rattle.trees.specs.Parts.{Part, part_at, duties_at, as_expression, as_items, as_policy}
use Rattle.trees.specs.Known.{known_parts, nothing}
use Rattle.deciding.specs.declared.known.Known.{Known}

-- how many lines
abbrev pub size : Known → ℕ
size known = length known.lines.now

abbrev pub line_of : Known → ℕ → Line
line_of known n = line_at known.lines.now n

-- the lines' parts, the readings put in for the attributes
abbrev pub parts : Known → List Part
parts known = known_parts known.lines.now known.readings.now

abbrev pub value_at : Known → ℕ → Value
value_at known n = value_of nothing (as_expression (part_at (parts known) n))

abbrev pub duties_of : Known → Option ℕ → Duties
duties_of known last = duties_at (parts known) last

abbrev pub items_at : Known → ℕ → Items
items_at known n = as_items (part_at (parts known) n)

-- all items' responses, in order
abbrev pub responses_of : Items → List (Response Duty)
responses_of is = first nothing is ∷ rest nothing is

-- the response of line n's policy
abbrev pub response_at : Known → ℕ → Response Duty
response_at known n = respond nothing (as_policy (part_at (parts known) n))

abbrev pub due : Force → ℕ → Value → Duty
due f a v = record { force = f; action = a; argument = v }

-- the duty of a line; what is no duty line stands for one that nobody has
abbrev pub due_from : List Part → Line → Duty
due_from ps (l.Truth b) = due May 0 error
due_from ps (l.Attribute x) = due May 0 error
due_from ps (l.Number z) = due May 0 error
due_from ps (l.Text x) = due May 0 error
due_from ps (l.Not j) = due May 0 error
due_from ps (l.Binary o j k) = due May 0 error
due_from ps (l.Duty f a e d) = due f a (value_of nothing (as_expression (part_at ps e)))
due_from ps (l.Item p i) = due May 0 error
due_from ps (l.Rule e t d) = due May 0 error
due_from ps (l.Set c t i p d) = due May 0 error

unfoldable pub due_at : Known → ℕ → Duty
due_at known n = due_from (parts known) (line_of known n)

-- line numbers read as the duties of those lines
abbrev pub read_dues : Known → List ℕ → List Duty
read_dues known ns = map (due_at known) ns

-- a line that may be named
abbrev pub Within : ℕ → Option ℕ → Type 0
Within n None = Unit {0}
Within n (Some k) = (0 < k) × (k ≤ n)
