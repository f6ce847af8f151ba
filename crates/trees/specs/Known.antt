-- Readings that are kept line by line, one for each attr line.
use Rattle.std.specs.Prelude.{◌≡◌, ℕ, ◌-◌, ◌<◌, ◌≤◌, List, length, slice_index_or}
use Rattle.values.specs.declared.value.Value.{Value}
use Rattle.values.specs.declared.value.Value.TheVariants.{Missing as missing}
use Rattle.policy.specs.declared.line.Line.{Line}
use Rattle.policy.specs.declared.line.Line.TheVariants as l
use Rattle.policy.specs.Lines.{line_at}
use Rattle.trees.specs.Expressions.{Expression, constant, Map}
use Rattle.trees.specs.Policies.{Policy}
use Rattle.trees.specs.Parts.{Part, parts_of, part_at, as_policy}

-- what line n read: the first value is line 1's
abbrev pub read_at : List Value → ℕ → Value
read_at vs n = slice_index_or vs (n - 1) missing

-- in the place of an attribute stands what its line read
abbrev pub known : List Value → ℕ → List ℕ → Expression
known vs n x = constant (read_at vs n)

abbrev pub known_parts : List Line → List Value → List Part
known_parts ls vs = parts_of (known vs) ls

-- nothing is left to look up
abbrev pub nothing : Map
nothing x = missing

-- the policy with its readings in the place of the attributes
abbrev pub known_policy : List Line → List Value → Policy
known_policy ls vs = as_policy (part_at (known_parts ls vs) (length ls))

-- what a line is to read by the map; a line that is no attr line may have any value
abbrev pub wanted : Map → Line → Value → Value
wanted m (l.Truth b) v = v
wanted m (l.Attribute x) v = m x
wanted m (l.Number z) v = v
wanted m (l.Text x) v = v
wanted m (l.Not j) v = v
wanted m (l.Binary o j k) v = v
wanted m (l.Duty f a e d) v = v
wanted m (l.Item p i) v = v
wanted m (l.Rule e t d) v = v
wanted m (l.Set c t i p d) v = v

-- every attr line has read the map's value for its name
abbrev pub Reads : List Line → List Value → Map → Type 0
Reads ls vs m = (n : ℕ) → 0 < n → n ≤ length ls → read_at vs n ≡ wanted m (line_at ls n) (read_at vs n)
