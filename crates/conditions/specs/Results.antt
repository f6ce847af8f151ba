-- What the flat pass keeps of a line: its value without texts and sets, as a class and a number.
use Rattle.std.specs.Prelude.{◌≡◌, ℕ, true, false, List, ℤ, pos, take, vec_items, slice_index_or}
use Rattle.values.specs.declared.value.Value.{Value}
use Rattle.values.specs.declared.value.Value.TheVariants as v
use Rattle.operators.specs.declared.operand.Outcome.{Outcome}
use Rattle.operators.specs.declared.operand.Outcome.TheVariants as r
use Rattle.conditions.specs.declared.class.Class.{Class}
use Rattle.conditions.specs.declared.class.Class.TheVariants as c
use Rattle.conditions.specs.declared.places.Places.{Places}
use Rattle.conditions.specs.Meaning.{value_at, values_of}

-- an error stands for a text or a set
abbrev pub narrow : Value → Outcome
narrow v.Missing = r.Missing
narrow v.Error = r.Error
narrow (v.Bool b) = r.Bool b
narrow (v.Number z) = r.Number z
narrow (v.Text x) = r.Error
narrow (v.Numbers zs) = r.Error
narrow (v.Texts xs) = r.Error

abbrev pub outcome_of : Class → ℤ → Outcome
outcome_of c.Missing z = r.Missing
outcome_of c.Error z = r.Error
outcome_of c.False z = r.Bool false
outcome_of c.True z = r.Bool true
outcome_of c.Number z = r.Number z

-- what stands for line k; an error where there is none yet
abbrev pub result_at : List Class → List ℤ → ℕ → Outcome
result_at classes numbers k = outcome_of (slice_index_or classes k c.Error) (slice_index_or numbers k (pos 0))

-- the values of the first n lines
abbrev pub values_to : ℕ → Places → List Value → List Value
values_to n p readings = values_of readings (take n (vec_items p.lines))

-- the results of the first n lines are kept
abbrev pub HaveResults : ℕ → Places → List Value → List Class → List ℤ → Type 0
HaveResults n p readings classes numbers = (k : ℕ) → result_at classes numbers k ≡ narrow (value_at (values_to n p readings) k)
