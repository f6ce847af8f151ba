use Rattle.std.proofs.Common.{ap, ◌∙◌}
use Rattle.combining.specs.Combined.{Response}
use Rattle.trees.specs.declared.duty.Duty.{Duty}
use Rattle.trees.proofs.Bridge.{known-respond}
use Rattle.compiling.specs.Fitted.{fitted_lines}
use Rattle.compiling.proofs.fitted.Fitted.verdict.Goals as goal

pub returns-clause-known : goal.returns-clause-known
returns-clause-known c = c.verdict.ensures.named _ (c.args.self.now.agrees c.args.readings.now)

pub returns-clause-decides : goal.returns-clause-decides
returns-clause-decides c m r =
    c.verdict.ensures.named _ (c.args.self.now.agrees c.args.readings.now) ∙ ap (λ (r : Response Duty). r.decision) (known-respond (fitted_lines c.args.self.now) c.args.readings.now m r)
