use Rattle.std.proofs.Common.{List, ap, ◌∙◌}
use Rattle.policy.specs.declared.line.Line.{Line}
use Rattle.policy.specs.Accepted.{lines_of}
use Rattle.trees.specs.Policies.{respond}
use Rattle.trees.specs.Known.{known_policy, nothing}
use Rattle.deciding.proofs.Answering.{by_map, fewer_by_map}
use Rattle.deciding.proofs.evaluator.Evaluator.respond.Goals as goal

pub returns-clause-responds : goal.returns-clause-responds
returns-clause-responds c = λ m r.
    by_map (lines_of c.args.policy.now) c.args.readings.now m r _ (c.respond.ensures.answer ∙ ap (λ (ls : List Line). respond nothing (known_policy ls c.args.readings.now)) c.lines.ensures.value)

pub returns-clause-greedy : goal.returns-clause-greedy
returns-clause-greedy c = λ m r.
    fewer_by_map (lines_of c.args.policy.now) c.args.readings.now m r _ (c.respond.ensures.answer ∙ ap (λ (ls : List Line). respond nothing (known_policy ls c.args.readings.now)) c.lines.ensures.value)
