-- The condition line that copies an expression line.
use Rattle.std.specs.Prelude.{ℕ, false, List}
use Rattle.policy.specs.declared.line.Line.{Line}
use Rattle.policy.specs.declared.line.Line.TheVariants as l
use Rattle.conditions.specs.declared.condition.Condition.{Condition}
use Rattle.conditions.specs.declared.condition.Condition.TheVariants as c
use Rattle.compiling.specs.declared.written.Written.{Written}
use Rattle.compiling.specs.Written.{value_place, written_at}

-- the copy of line n, which is x; what is no expression has none, and a constant stands for it
abbrev pub copy_of : ℕ → List Written → Line → Condition
copy_of n ws (l.Truth b) = c.Truth b
copy_of n ws (l.Attribute x) = c.Reading n
copy_of n ws (l.Number z) = c.Number z
copy_of n ws (l.Text x) = c.Text x
copy_of n ws (l.Not j) = c.Not (value_place (written_at ws j))
copy_of n ws (l.Binary o j k) = c.Binary o (value_place (written_at ws j)) (value_place (written_at ws k))
copy_of n ws (l.Duty f a e d) = c.Truth false
copy_of n ws (l.Item p i) = c.Truth false
copy_of n ws (l.Rule e t d) = c.Truth false
copy_of n ws (l.Set k t i p d) = c.Truth false
