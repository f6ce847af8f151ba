-- The values that operands and outcomes stand for.
use Rattle.values.specs.declared.value.Value.{Value}
use Rattle.values.specs.declared.value.Value.TheVariants as v
use Rattle.operators.specs.declared.operand.Operand.{Operand}
use Rattle.operators.specs.declared.operand.Operand.TheVariants as o
use Rattle.operators.specs.declared.operand.Outcome.{Outcome}
use Rattle.operators.specs.declared.operand.Outcome.TheVariants as r

abbrev pub seen : Operand → Value
seen o.Missing = v.Missing
seen o.Error = v.Error
seen (o.Bool b) = v.Bool b
seen (o.Number z) = v.Number z
seen (o.Text t) = v.Text t.now
seen (o.Numbers s) = v.Numbers s.now
seen (o.Texts s) = v.Texts s.now

abbrev pub given : Outcome → Value
given r.Missing = v.Missing
given r.Error = v.Error
given (r.Bool b) = v.Bool b
given (r.Number z) = v.Number z
