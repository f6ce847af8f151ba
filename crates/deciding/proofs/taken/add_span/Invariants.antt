use Rattle.std.proofs.Common.{◌≡◌, ◌+◌, ◌-◌, ◌++◌, take, drop, vec_items, vec_len, vec_capacity}
use Rattle.deciding.proofs.taken.add_span.Given as goal

abbrev pub invariant-loop-place : goal.invariant-loop-place
invariant-loop-place l = record {
  items : vec_items l.numbers ≡ vec_items l.initial.numbers ++ take (l.place - l.start) (drop l.start (vec_items l.initial.numbers));
  len : vec_len l.numbers ≡ vec_len l.initial.numbers + (l.place - l.start);
  cap : vec_capacity l.numbers ≡ vec_capacity l.initial.numbers;
}
