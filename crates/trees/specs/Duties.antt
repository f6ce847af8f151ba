-- Duties: what is to be carried out with an answer.
use Rattle.std.specs.Prelude.{ℕ, Bool, true, false, ◌&&◌, List, [], ◌∷◌, ◌++◌}
use Rattle.values.specs.declared.value.Value.{Value}
use Rattle.values.specs.declared.value.Value.TheVariants.{Missing as missing, Error as error, Bool as boolean, Number as number, Text as text, Numbers as numbers, Texts as texts}
use Rattle.policy.specs.declared.line.Force.{Force}
use Rattle.trees.specs.declared.duty.Duty.{Duty}
use Rattle.trees.specs.Expressions.{Expression, Map, value_of}

-- the duties that a policy has of its own, each after the earlier ones
pub data Duties : Type 0 where
  none : Duties
  then : Duties → Force → ℕ → Expression → Duties

-- a boolean, a number or a text fulfils a duty
abbrev pub fulfils : Value → Bool
fulfils missing = false
fulfils error = false
fulfils (boolean b) = true
fulfils (number z) = true
fulfils (text t) = true
fulfils (numbers zs) = false
fulfils (texts ts) = false

abbrev pub all_fulfilled : Map → Duties → Bool
all_fulfilled m none = true
all_fulfilled m (then ds force action e) = all_fulfilled m ds && fulfils (value_of m e)

-- the duties with their arguments evaluated
abbrev pub dues_of : Map → Duties → List Duty
dues_of m none = []
dues_of m (then ds force action e) = dues_of m ds ++ record { force = force; action = action; argument = value_of m e } ∷ []
