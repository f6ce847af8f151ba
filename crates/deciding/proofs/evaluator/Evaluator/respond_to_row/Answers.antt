use Rattle.policy.specs.Accepted.{lines_of}
use Rattle.readings.specs.Rows.{map_in}
use Rattle.deciding.specs.Answer.{readings_in}
use Rattle.deciding.proofs.Answering.{fewer_by_map}
use Rattle.deciding.proofs.evaluator.Evaluator.respond_to_row.Goals as goal

pub returns-clause-responds : goal.returns-clause-responds
returns-clause-responds c = c.decide.ensures.responds (map_in c.args.row.now) c.read.ensures.reads

pub returns-clause-greedy : goal.returns-clause-greedy
returns-clause-greedy c = fewer_by_map (lines_of c.args.policy.now) (readings_in c.read.new.self) (map_in c.args.row.now) c.read.ensures.reads _ c.decide.ensures.known
