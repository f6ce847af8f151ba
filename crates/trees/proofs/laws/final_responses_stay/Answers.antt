use Rattle.trees.proofs.Final.{final_stays}
use Rattle.trees.proofs.laws.final_responses_stay.Goals as goal

pub returns : goal.returns
returns c = final_stays
