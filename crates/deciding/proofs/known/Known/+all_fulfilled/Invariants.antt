use Rattle.deciding.proofs.Meaning.{height}
use Rattle.deciding.proofs.known.Known.+all_fulfilled.Given as goal

abbrev pub decreases-all_fulfilled : goal.decreases-all_fulfilled
decreases-all_fulfilled l = height l.last
