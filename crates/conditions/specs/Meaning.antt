-- What condition lines mean: the value of each, over readings that are given by the number of their attr line.
use Rattle.std.specs.Prelude.{ℕ, Bool, true, false, not, ◌&&◌, ◌||◌, List, [], ◌∷◌, ◌++◌, slice_index_or, nat_lt}
use Rattle.values.specs.declared.value.Value.{Value}
use Rattle.values.specs.declared.value.Value.TheVariants.{Error as error, Bool as boolean, Number as number, Text as text}
use Rattle.operators.specs.Classes.{is_true, is_false, is_missing}
use Rattle.operators.specs.Operators.{not_of}
use Rattle.trees.specs.Expressions.{applied}
use Rattle.trees.specs.Duties.{fulfils}
use Rattle.trees.specs.Known.{read_at}
use Rattle.conditions.specs.declared.condition.Condition.{Condition}
use Rattle.conditions.specs.declared.condition.Condition.TheVariants as c
use Rattle.conditions.specs.declared.condition.Test.{Test}
use Rattle.conditions.specs.declared.condition.Test.TheVariants as t

abbrev pub passes : Test → Value → Bool
passes t.True v = is_true v
passes t.Absent v = is_false v || is_missing v
passes t.Other v = not (is_true v || (is_false v || is_missing v))
passes t.Fulfilled v = fulfils v

-- the value of line k, where the lines have the values vs; there is none past their end
abbrev pub value_at : List Value → ℕ → Value
value_at vs k = slice_index_or vs k error

abbrev pub is_true_at : List Value → ℕ → Bool
is_true_at vs k = is_true (value_at vs k)

-- the value of a line, by the readings and the values of the lines above it
abbrev pub value_by : List Value → List Value → Condition → Value
value_by readings vs (c.Truth b) = boolean b
value_by readings vs (c.Reading n) = read_at readings n
value_by readings vs (c.Number z) = number z
value_by readings vs (c.Text x) = text x
value_by readings vs (c.Not j) = not_of (value_at vs j)
value_by readings vs (c.Binary o j k) = applied o (value_at vs j) (value_at vs k)
value_by readings vs (c.Test t j) = boolean (passes t (value_at vs j))
value_by readings vs (c.Negation j) = boolean (not (is_true_at vs j))
value_by readings vs (c.Both j k) = boolean (is_true_at vs j && is_true_at vs k)
value_by readings vs (c.Either j k) = boolean (is_true_at vs j || is_true_at vs k)

-- the values of lines from the top, after those with the values vs
abbrev pub values_after : List Value → List Value → List Condition → List Value
values_after readings vs [] = vs
values_after readings vs (x ∷ xs) = values_after readings (vs ++ value_by readings vs x ∷ []) xs

unfoldable pub values_of : List Value → List Condition → List Value
values_of readings xs = values_after readings [] xs

-- whether a line names only lines above place n
abbrev pub names_above : ℕ → Condition → Bool
names_above n (c.Truth b) = true
names_above n (c.Reading k) = true
names_above n (c.Number z) = true
names_above n (c.Text x) = true
names_above n (c.Not j) = nat_lt j n
names_above n (c.Binary o j k) = nat_lt j n && nat_lt k n
names_above n (c.Test t j) = nat_lt j n
names_above n (c.Negation j) = nat_lt j n
names_above n (c.Both j k) = nat_lt j n && nat_lt k n
names_above n (c.Either j k) = nat_lt j n && nat_lt k n

-- what stands in a place that no one has written
abbrev pub blank : Condition
blank = c.Truth false

abbrev pub line_at : List Condition → ℕ → Condition
line_at xs k = slice_index_or xs k blank
