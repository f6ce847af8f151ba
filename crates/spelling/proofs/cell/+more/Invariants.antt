use Rattle.std.proofs.Common.{length}
use Rattle.spelling.proofs.cell.+more.Given as goal

abbrev pub decreases-more : goal.decreases-more
decreases-more g l = length l.s.now
