use Rattle.std.proofs.Common.{◌≡◌, ◌+◌, ◌++◌, map, take, vec_items, vec_len, vec_capacity}
use Rattle.deciding.specs.Known.{due_at}
use Rattle.deciding.proofs.known.Known.fulfil.Given as goal

abbrev pub invariant-loop-number : goal.invariant-loop-number
invariant-loop-number l = record {
  added : (vec_items l.duties) ≡ (vec_items l.initial.duties) ++ map (due_at l.self) (take l.number-index l.numbers);
  len : vec_len l.duties ≡ vec_len l.initial.duties + l.number-index;
  capacity : vec_capacity l.duties ≡ vec_capacity l.initial.duties;
}
