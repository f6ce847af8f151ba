-- The number and the layer of every cause.
use Rattle.std.specs.Prelude.{ℕ, cond, ◌&&◌, ◌==◌, nat_le}
use Rattle.refusals.specs.declared.cause.Cause.{Cause}
use Rattle.refusals.specs.declared.cause.Cause.TheVariants as why
use Rattle.refusals.specs.declared.cause.Layer.{Layer}
use Rattle.refusals.specs.declared.cause.Layer.TheVariants.{Spelling, Tree, Memory, CallOrder}

abbrev pub number_of : Cause → ℕ
number_of why.Header = 1
number_of why.Shape = 2
number_of why.UnknownKind = 3
number_of why.UnknownAlgorithm = 3
number_of why.Misspelt = 4
number_of why.NotAbove = 5
number_of why.WrongFamily = 5
number_of why.NamedTwice = 6
number_of why.NeverNamed = 6
number_of why.LastNotPolicy = 6
number_of why.LineCount = 7
number_of why.NoNames = 8
number_of why.TooManyNames = 8
number_of why.NameMisspelt = 8
number_of why.NameRepeated = 8
number_of why.RowShape = 9
number_of why.CellMisspelt = 10
number_of why.TooSmall = 11
number_of why.NoPolicy = 12
number_of why.NoReadings = 13
number_of why.ResponseWaits = 14
number_of why.NoneWaits = 15

-- 2 tree for 5 to 7, 3 memory for 11, 4 call order for 12 to 15, 1 spelling for the others
abbrev pub layer_of : ℕ → ℕ
layer_of n = cond (nat_le 5 n && nat_le n 7) 2 (cond (n == 11) 3 (cond (nat_le 12 n && nat_le n 15) 4 1))

abbrev pub layer_number : Layer → ℕ
layer_number Spelling = 1
layer_number Tree = 2
layer_number Memory = 3
layer_number CallOrder = 4
