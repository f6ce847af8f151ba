use Rattle.std.proofs.Common.{◌++◌, take}
use Rattle.std.specs.List.{flat_map}
use Rattle.policy.specs.Spelt.{fields_for}
use Rattle.writing.specs.Put.{Puts}
use Rattle.writing.proofs.Rows.{spaced}
use Rattle.writing.proofs.row.put_line.Given as goal

abbrev pub invariant-loop-word : goal.invariant-loop-word
invariant-loop-word l = Puts l.fn.out l.start ((fields_for l.line).kind ++ flat_map spaced (take l.word-index l.word-items)) l.out l.place
