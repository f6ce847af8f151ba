use Rattle.std.proofs.Common.{vec_items}
use Rattle.deciding.proofs.Reading.{ReadTo}
use Rattle.deciding.proofs.respond.read_lines.Given as goal

abbrev pub invariant-loop-place : goal.invariant-loop-place
invariant-loop-place g l = ReadTo l.place l.lines (vec_items l.readings) (g.S.Source.means l.source)
