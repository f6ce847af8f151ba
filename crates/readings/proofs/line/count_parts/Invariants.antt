use Rattle.std.proofs.Common.{◌≡◌, ◌≤◌, eqb, take, count_by}
use Rattle.readings.proofs.line.count_parts.Given as goal

abbrev pub invariant-loop-byte : goal.invariant-loop-byte
invariant-loop-byte l = (l.spaces ≤ l.byte-index) × (l.spaces ≡ count_by (λ x. eqb x 32) (take l.byte-index l.line))
