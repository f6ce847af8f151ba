use Rattle.trees.proofs.Greedy.{fewer_all}
use Rattle.trees.proofs.laws.greedy_keeps_decisions.Goals as goal

pub returns : goal.returns
returns c = fewer_all
