use Rattle.std.proofs.Common.{ap, ◌∙◌, sym}
use Rattle.condition_tests.specs.TwoPermits.{after_of, seen_more}
use Rattle.condition_tests.proofs.two_permits.TwoPermitsCombiningAlgorithm.step.Goals as goal

pub returns : goal.returns
returns c = λ ds h. c.after.ensures ∙ ap (λ s. after_of s c.args.child) h ∙ sym (seen_more ds c.args.child)
