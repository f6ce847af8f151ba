-- Expressions, and the value of one over a map from names to values.
use Rattle.std.specs.Prelude.{ℕ, List}
use Rattle.values.specs.declared.value.Value.{Value}
use Rattle.policy.specs.declared.line.Operator.{Operator}
use Rattle.policy.specs.declared.line.Operator.TheVariants as o
use Rattle.operators.specs.Operators.{and_of, or_of, not_of, equal_of, in_of, greater_of, add_of, sub_of, mul_of, div_of}

pub data Expression : Type 0 where
  constant : Value → Expression
  attribute : List ℕ → Expression
  negation : Expression → Expression
  binary : Operator → Expression → Expression → Expression

-- what every name reads; missing where there is no reading
abbrev pub Map : Type 0
Map = List ℕ → Value

unfoldable pub applied : Operator → Value → Value → Value
applied o.And a b = and_of a b
applied o.Or a b = or_of a b
applied o.Equal a b = equal_of a b
applied o.In a b = in_of a b
applied o.Greater a b = greater_of a b
applied o.Add a b = add_of a b
applied o.Sub a b = sub_of a b
applied o.Mul a b = mul_of a b
applied o.Div a b = div_of a b

abbrev pub value_of : Map → Expression → Value
value_of m (constant v) = v
value_of m (attribute x) = m x
value_of m (negation e) = not_of (value_of m e)
value_of m (binary op e f) = applied op (value_of m e) (value_of m f)
