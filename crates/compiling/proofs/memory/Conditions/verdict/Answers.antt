use Rattle.std.proofs.Common.{◌∙◌}
use Rattle.compiling.proofs.Agreeing.{named_verdict}
use Rattle.compiling.proofs.memory.Conditions.verdict.Goals as goal

pub returns-clause-named : goal.returns-clause-named
returns-clause-named c d n = c.verdict.ensures ∙ named_verdict c.args.self.now c.args.readings.now d n
