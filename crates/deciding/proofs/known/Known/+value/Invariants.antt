use Rattle.deciding.proofs.known.Known.+value.Given as goal

abbrev pub decreases-value : goal.decreases-value
decreases-value l = l.number
