use Rattle.std.proofs.Common.{◌≡◌, ◌+◌, ◌*◌, ◌≤◌, vec_items, vec_len}
use Rattle.deciding.specs.Known.{read_dues}
use Rattle.deciding.specs.Kept.{KeptTo}
use Rattle.deciding.specs.Answer.{memory_places}
use Rattle.deciding.proofs.memory.Memory.respond_all.Given as goal

abbrev pub invariant-loop-number : goal.invariant-loop-number
invariant-loop-number l = record {
  kept : KeptTo l.number l.known l.self.responses (read_dues l.known (vec_items l.self.numbers));
  few : vec_len l.self.numbers + 256 ≤ 256 * l.number;
  places : memory_places l.self ≡ memory_places l.fn.self;
}
