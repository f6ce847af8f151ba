-- The families of lines, and what a line names.
use Rattle.std.specs.Prelude.{ℕ, ◌-◌, Bool, true, false, List, [], ◌∷◌, ◌++◌, Some, None, Option, slice_index_or}
use Rattle.policy.specs.declared.line.Line.{Line}
use Rattle.policy.specs.declared.line.Line.TheVariants as l
use Rattle.policy.specs.declared.line.Family.{Family}
use Rattle.policy.specs.declared.line.Family.TheVariants.{Expression, Duty, Item, Policy}

abbrev pub family_of : Line → Family
family_of (l.Truth b) = Expression
family_of (l.Attribute x) = Expression
family_of (l.Number z) = Expression
family_of (l.Text x) = Expression
family_of (l.Not j) = Expression
family_of (l.Binary o j k) = Expression
family_of (l.Duty f a e d) = Duty
family_of (l.Item p i) = Item
family_of (l.Rule e t d) = Policy
family_of (l.Set c t i p d) = Policy

abbrev pub same_family : Family → Family → Bool
same_family Expression Expression = true
same_family Duty Duty = true
same_family Item Item = true
same_family Policy Policy = true
same_family _ _ = false

-- line n, counted from 1
abbrev pub line_at : List Line → ℕ → Line
line_at ls n = slice_index_or ls (n - 1) (l.Truth false)

-- a line named in a place that asks for a family
pub record Reference : Type 0 where
  pub family : Family
  pub line : ℕ

abbrev pub names : Family → ℕ → List Reference
names f k = record { family = f; line = k } ∷ []

abbrev pub may_name : Family → Option ℕ → List Reference
may_name f None = []
may_name f (Some k) = names f k

-- what a line names, from the left
abbrev pub references : Line → List Reference
references (l.Truth b) = []
references (l.Attribute x) = []
references (l.Number z) = []
references (l.Text x) = []
references (l.Not j) = names Expression j
references (l.Binary o j k) = names Expression j ++ names Expression k
references (l.Duty f a e d) = names Expression e ++ may_name Duty d
references (l.Item p i) = names Policy p ++ may_name Item i
references (l.Rule e t d) = names Expression t ++ may_name Duty d
references (l.Set c t i p d) = names Expression t ++ (names Item i ++ (may_name Duty p ++ may_name Duty d))
