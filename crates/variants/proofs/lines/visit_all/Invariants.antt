use Rattle.std.proofs.Common.{◌≡◌, take, vec_capacity}
use Rattle.variants.specs.VisitingAll.{lines_visiting_all}
use Rattle.variants.proofs.lines.visit_all.Given as goal

abbrev pub invariant-loop-line : goal.invariant-loop-line
invariant-loop-line l = record { lines : l.out.items ≡ lines_visiting_all (take l.line-index l.lines); capacity : vec_capacity l.out ≡ vec_capacity l.fn.out }
