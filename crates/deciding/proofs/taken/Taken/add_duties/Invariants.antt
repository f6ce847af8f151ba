use Rattle.std.proofs.Common.{◌≡◌, vec_items, vec_capacity}
use Rattle.deciding.proofs.Spans.{Taking}
use Rattle.deciding.proofs.taken.Taken.add_duties.Given as goal

abbrev pub invariant-loop-child : goal.invariant-loop-child
invariant-loop-child l = record {
  taking : Taking l.self l.child-index (vec_items l.initial.numbers) (vec_items l.numbers);
  cap : vec_capacity l.numbers ≡ vec_capacity l.initial.numbers;
}
