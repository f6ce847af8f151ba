-- What the loop keeps: whether one of the truths below t holds, but for the one that is left out.
use Rattle.std.proofs.Common.{◌≡◌, ℕ, ◌<◌, ◌&&◌, List, not}
use Rattle.std.specs.Prelude.{◌==◌, nat_lt}
use Rattle.values.specs.declared.value.Value.{Value}
use Rattle.conditions.specs.Places.{Grows, Inside, holds}
use Rattle.conditions.specs.States.{truth_at}
use Rattle.conditions.proofs.places.Places.none_other.Given as goal

abbrev pub invariant-loop-t : goal.invariant-loop-t
invariant-loop-t l = record {
  grows : Grows l.initial.self l.self l.t;
  within : Inside l.self l.some;
  holds : (readings : List Value) (x : ℕ) → ((t : ℕ) → t < 5 → (t ≡ l.rest → ⊥) → holds l.initial.self readings (truth_at l.truths t) ≡ (t == x)) → holds l.self readings l.some ≡ (nat_lt x l.t && not (x == l.rest));
}
