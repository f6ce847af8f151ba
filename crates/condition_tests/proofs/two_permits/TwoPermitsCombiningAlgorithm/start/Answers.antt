use Rattle.std.proofs.Common.{◌∙◌}
use Rattle.condition_tests.specs.TwoPermits.{seen_first}
use Rattle.condition_tests.proofs.two_permits.TwoPermitsCombiningAlgorithm.start.Goals as goal

pub returns : goal.returns
returns c = c.after.ensures ∙ seen_first c.args.first
