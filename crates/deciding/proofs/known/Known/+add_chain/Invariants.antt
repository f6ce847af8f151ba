use Rattle.deciding.proofs.Meaning.{height}
use Rattle.deciding.proofs.known.Known.+add_chain.Given as goal

abbrev pub decreases-add_chain : goal.decreases-add_chain
decreases-add_chain l = height l.last
