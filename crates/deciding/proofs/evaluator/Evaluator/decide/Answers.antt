use Rattle.std.proofs.Common.{List, ap, ◌∙◌}
use Rattle.values.specs.declared.value.Value.{Value}
use Rattle.policy.specs.declared.line.Line.{Line}
use Rattle.policy.specs.Accepted.{lines_of}
use Rattle.trees.specs.Policies.{respond}
use Rattle.trees.specs.Known.{known_policy, nothing}
use Rattle.deciding.specs.Answer.{readings_in}
use Rattle.deciding.proofs.Answering.{by_map}
use Rattle.deciding.proofs.evaluator.Evaluator.decide.Goals as goal

pub returns-clause-responds : goal.returns-clause-responds
returns-clause-responds c = λ m r.
    by_map (lines_of c.args.policy.now) (readings_in c.args.self.now) m r _
    (c.respond.ensures.answer
    ∙ ap (λ (us : List Value). respond nothing (known_policy c.lines.result.now us)) c.as_slice.ensures.value
    ∙ ap (λ (ls : List Line). respond nothing (known_policy ls (readings_in c.args.self.now))) c.lines.ensures.value)
