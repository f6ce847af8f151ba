-- What the loop keeps: the numbers below d were spread.
use Rattle.std.proofs.Common.{◌≡◌, ℕ, ◌*◌, ◌<◌, ◌&&◌, ◌||◌, List, length, take, slice_index_or}
use Rattle.std.specs.Prelude.{◌==◌, nat_lt}
use Rattle.values.specs.declared.value.Value.{Value}
use Rattle.conditions.specs.Places.{Grows, holds}
use Rattle.conditions.specs.States.{truth_at, AllInside, Only, others_in}
use Rattle.conditions.proofs.places.Places.spread.Given as goal

abbrev pub invariant-loop-d : goal.invariant-loop-d
invariant-loop-d l = record {
  grows : Grows l.initial.self l.self (2 * others_in l.rest (take l.d l.row));
  long : length l.truths ≡ length l.initial.truths;
  within : AllInside l.self l.truths;
  holds : (readings : List Value) (d : ℕ) → Only l.initial.self readings l.from d → (t : ℕ) → t < length l.truths → (t ≡ l.rest → ⊥)
      → holds l.self readings (truth_at l.truths t) ≡ (holds l.initial.self readings (truth_at l.initial.truths t) || (holds l.initial.self readings l.state && (nat_lt d l.d && (t == slice_index_or l.row d 0))));
}
