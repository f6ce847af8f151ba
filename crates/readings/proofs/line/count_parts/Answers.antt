use Rattle.std.proofs.Common.{eqb, length, count_by, ap, ◌∙◌, arith}
use Rattle.std.proofs.lemmas.List.{take_all}
use Rattle.std.proofs.lemmas.List.Sums.{count_by_more_no, count_by_more_yes}
use Rattle.std.proofs.lemmas.List.Splits.{length-slice_split}
use Rattle.std.proofs.lemmas.Bool.Decides.{nat_tests}
use Rattle.readings.proofs.Parts.{parts_split}
use Rattle.readings.proofs.line.count_parts.Goals as goal
use Rattle.readings.proofs.line.count_parts.Goals.{then-byte-eq32, else-byte-eq32}

pub loop-byte-preserved : goal.loop-byte-preserved
loop-byte-preserved c =
    let xs = c.args.line.now in
    let i = c.loop-byte.byte-index in
    let yes = count_by_more_yes (λ x. eqb x 32) xs i 0 c.loop-byte-test.true in
    let no = count_by_more_no (λ x. eqb x 32) xs i 0 c.loop-byte-test.true in
    elim c.if-byte-eq32.branch [ then-byte-eq32 w ↦ grind (arith, nat_tests) | else-byte-eq32 w ↦ grind (arith, nat_tests) ]

pub returns : goal.returns
returns c =
    let e = ap length (parts_split 32 c.args.line.now) ∙ length-slice_split (λ x. eqb x 32) c.args.line.now in
    let k = ap (count_by (λ x. eqb x 32)) (take_all c.loop-byte.byte-index c.args.line.now c.loop-byte-test.false) in
    omega (arith, e, k, c.loop-byte.invariant.1)
