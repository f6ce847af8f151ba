-- Where the condition lines of a policy's line stand, and what they say.
use Rattle.std.specs.Prelude.{◌≡◌, ℕ, ◌<◌, true, false, List, [], ◌∷◌, map, Some, None, Option, slice_index_or}
use Rattle.values.specs.declared.value.Value.{Value}
use Rattle.spelling.specs.declared.algorithm.Algorithm.{Algorithm}
use Rattle.policy.specs.declared.line.Family.{Family}
use Rattle.policy.specs.declared.line.Family.TheVariants.{Expression as expression, Duty as duty, Item as item, Policy as policy}
use Rattle.policy.specs.declared.line.Line.{Line}
use Rattle.policy.specs.Lines.{family_of, line_at}
use Rattle.combining.specs.declared.decision.Decision.{Decision}
use Rattle.combining.specs.Combined.{decision_of}
use Rattle.combining.specs.Table.{place, Reached}
use Rattle.trees.specs.Expressions.{value_of}
use Rattle.trees.specs.Duties.{all_fulfilled}
use Rattle.trees.specs.Policies.{respond, first, rest}
use Rattle.trees.specs.Parts.{Part, as_expression, as_duties, as_items, as_policy, part_at}
use Rattle.trees.specs.Known.{nothing, known_parts}
use Rattle.conditions.specs.declared.places.Places.{Places}
use Rattle.conditions.specs.declared.truth.Truth.{Truth}
use Rattle.conditions.specs.declared.truth.Truth.TheVariants.{Known}
use Rattle.conditions.specs.Places.{value_in, holds, Inside}
use Rattle.conditions.specs.States.{AllInside, Only}
use Rattle.compiling.specs.declared.written.Written.{Written}
use Rattle.compiling.specs.declared.written.Written.TheVariants as w
use Rattle.compiling.specs.Handed.{algorithm_at}

abbrev pub value_place : Written → ℕ
value_place (w.Expression k) = k
value_place (w.Duties t) = 0
value_place (w.Items ts) = 0
value_place (w.Policy ts) = 0

abbrev pub truth_in : Written → Truth
truth_in (w.Expression k) = Known true
truth_in (w.Duties t) = t
truth_in (w.Items ts) = Known true
truth_in (w.Policy ts) = Known true

-- nothing holds
abbrev pub never : Truth
never = Known false

abbrev pub states_in : Written → List Truth
states_in (w.Expression k) = never ∷ never ∷ never ∷ never ∷ never ∷ []
states_in (w.Duties t) = never ∷ never ∷ never ∷ never ∷ never ∷ []
states_in (w.Items ts) = ts
states_in (w.Policy ts) = never ∷ never ∷ never ∷ never ∷ never ∷ []

abbrev pub decision_truths : Written → List Truth
decision_truths (w.Expression k) = never ∷ never ∷ never ∷ never ∷ []
decision_truths (w.Duties t) = never ∷ never ∷ never ∷ never ∷ []
decision_truths (w.Items ts) = never ∷ never ∷ never ∷ never ∷ []
decision_truths (w.Policy ts) = ts

abbrev pub written_at : List Written → ℕ → Written
written_at ws n = slice_index_or ws n (w.Expression 0)

-- whether the duties of a chain are fulfilled; where there is none they are
abbrev pub chain_in : List Written → Option ℕ → Truth
chain_in ws None = Known true
chain_in ws (Some k) = truth_in (written_at ws k)

-- state number s of an algorithm stands for these children
abbrev pub Stands : Algorithm → ℕ → List Decision → Type 0
Stands a s ds = (q : Decision) × (place q ≡ s) × Reached a q ds

-- of the truths that of the state for these children holds
pub record InState (p : Places) (readings : List Value) (a : Algorithm) (ts : List Truth) (ds : List Decision) : Type 0 where
  pub state : ℕ
  pub bound : state < 5
  pub only : Only p readings ts state
  pub stands : Stands a state ds

-- of the truths that were written for the items before an item that of the state for these children holds; before the first there is none
abbrev pub Before : Places → List Value → Algorithm → List Written → Option ℕ → List Decision → Type 0
Before p readings a ws None ds = ds ≡ []
Before p readings a ws (Some k) ds = InState p readings a (states_in (written_at ws k)) ds

-- what the items of a part decide, in order
abbrev pub decisions_of : Part → List Decision
decisions_of x = map decision_of (first nothing (as_items x) ∷ rest nothing (as_items x))

-- what was written for a line of a family says over the readings what its part says; a chain of items has the algorithm a
abbrev pub Says : Family → Places → List Value → Algorithm → Written → Part → Type 0
Says expression p readings a w x = (value_place w < p.used) × (value_in p readings (value_place w) ≡ value_of nothing (as_expression x))
Says duty p readings a w x = Inside p (truth_in w) × (holds p readings (truth_in w) ≡ all_fulfilled nothing (as_duties x))
Says item p readings a w x = AllInside p (states_in w) × InState p readings a (states_in w) (decisions_of x)
Says policy p readings a w x = AllInside p (decision_truths w) × Only p readings (decision_truths w) (place (respond nothing (as_policy x)).decision)

-- so all lines above line n
abbrev pub AllSay : ℕ → List Line → Places → List Value → List Algorithm → List Written → Type 0
AllSay n ls p readings hs ws = (k : ℕ) → 0 < k → k < n → Says (family_of (line_at ls k)) p readings (algorithm_at hs k) (written_at ws k) (part_at (known_parts ls readings) k)
