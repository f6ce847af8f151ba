-- What the loop keeps: the states below `state` were spread over those after one child more.
use Rattle.std.proofs.Common.{◌≡◌, ℕ, ◌*◌, ◌<◌, ◌&&◌, ◌||◌, List, length, take}
use Rattle.std.specs.Prelude.{◌==◌, nat_lt}
use Rattle.values.specs.declared.value.Value.{Value}
use Rattle.combining.specs.declared.decision.Decision.{Decision}
use Rattle.combining.specs.Table.{place}
use Rattle.conditions.specs.Places.{Grows, holds}
use Rattle.conditions.specs.States.{truth_at, AllInside, Only, others_of}
use Rattle.conditions.specs.Transitions.{next_in}
use Rattle.conditions.proofs.places.Places.next_states.Given as goal

abbrev pub invariant-loop-state : goal.invariant-loop-state
invariant-loop-state l = record {
  grows : Grows l.initial.self l.self (2 * others_of l.rest (take l.state l.table.next));
  long : length l.truths ≡ 5;
  within : AllInside l.self l.truths;
  holds : (readings : List Value) (s : ℕ) (d : Decision) → s < 5 → Only l.initial.self readings l.states s → Only l.initial.self readings l.child (place d) → (t : ℕ) → t < 5 → (t ≡ l.rest → ⊥)
      → holds l.self readings (truth_at l.truths t) ≡ ((nat_lt s l.state || nat_lt 3 s) && (t == next_in l.table s d));
}
