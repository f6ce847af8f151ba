use Rattle.std.proofs.Common.{[], ◌++◌, take}
use Rattle.std.specs.List.{flat_map}
use Rattle.writing.specs.Put.{Puts}
use Rattle.writing.specs.Rows.{line_bytes}
use Rattle.writing.proofs.write.put_lines.Given as goal

abbrev pub invariant-loop-line : goal.invariant-loop-line
invariant-loop-line l = Puts l.fn.out l.start ([] ++ flat_map line_bytes (take l.line-index l.lines)) l.out l.place
