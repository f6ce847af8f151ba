use Rattle.std.proofs.Common.{arith}
use Rattle.std.proofs.lemmas.Bool.Decides.{nat_tests}
use Rattle.conditions.proofs.Numbers.{others_more}
use Rattle.conditions.proofs.states.others_in.Goals as goal

pub loop-d-preserved : goal.loop-d-preserved
loop-d-preserved c =
    let h = c.loop-d-test.true in
    let o = others_more c.args.rest c.args.row.now c.loop-d.d h in
    let i = c.loop-d.invariant.others in
    let f = c.loop-d.invariant.few in
    let e = c.from-others.ensures in
    record { few = grind (arith, nat_tests); others = grind (arith, nat_tests) }
