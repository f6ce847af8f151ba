-- An operation on two numbers, by what its calls return.
use Rattle.std.specs.Prelude.{◌≡◌, ℤ, Some, None, Option, FitsSigned}
use Rattle.std.specs.Int.{w32}
use Rattle.values.specs.declared.value.Value.{Value}
use Rattle.values.specs.declared.value.Value.TheVariants.{Error as error, Number as number}

-- a result that no number can hold is an error
abbrev pub number_or : Option ℤ → Value
number_or None = error
number_or (Some z) = number z

-- whatever a call returns for two numbers stands for the value that f gives of them
abbrev pub Gives : (ℤ → ℤ → Option ℤ → Type 0) → (ℤ → ℤ → Value) → Type 0
Gives returned f = (x y : ℤ) (r : Option ℤ) → FitsSigned w32 x → FitsSigned w32 y → returned x y r → number_or r ≡ f x y
