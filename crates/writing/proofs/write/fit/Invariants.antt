use Rattle.std.proofs.Common.{◌≡◌, ◌+◌, ◌*◌, ◌≤◌, length, take, sum_by}
use Rattle.writing.specs.Rows.{line_bytes}
use Rattle.writing.proofs.write.fit.Given as goal

abbrev pub invariant-loop-line : goal.invariant-loop-line
invariant-loop-line l = (l.left + sum_by (λ x. length (line_bytes x)) (take l.line-index l.lines) ≡ l.room) × (l.room ≤ l.left + 150 * l.line-index)
