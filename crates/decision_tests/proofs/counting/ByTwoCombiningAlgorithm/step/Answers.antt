use Rattle.std.proofs.Common.{◌≡◌, ap, arith}
use Rattle.decision_tests.specs.Counting.{one_if_permit, permits_more, none_more}
use Rattle.decision_tests.proofs.counting.ByTwoCombiningAlgorithm.step.Goals as goal

pub returns-in-Permit : goal.returns-in-Permit
returns-in-Permit c = λ ds h.
    let more = permits_more ds c.args.child in
    let one : one_if_permit c.args.child ≡ 1 = ap one_if_permit c.in-Permit.is in
    let added = c.saturating_add.ensures in
    let least = c.min.ensures in
    omega (arith, h, more, one, added, least)

pub returns-in_default : goal.returns-in_default
returns-in_default c = λ ds h.
    let more = permits_more ds c.args.child in
    let none = none_more c.args.child c.in_default.not-Permit in
    omega (arith, h, more, none)
