use Rattle.std.proofs.Common.{length, sum_by, ap, arith}
use Rattle.std.proofs.lemmas.List.{take_all}
use Rattle.std.proofs.lemmas.List.Sums.{sum_by_more_le}
use Rattle.std.proofs.lemmas.Bool.Decides.{nat_tests}
use Rattle.writing.specs.Rows.{line_bytes}
use Rattle.writing.proofs.Rows.{length-rows}
use Rattle.writing.proofs.write.fit.Goals as goal

pub returns-then-size-left-clause-value : goal.returns-then-size-left-clause-value
returns-then-size-left-clause-value c =
    let h = sum_by_more_le (λ x. length (line_bytes x)) c.args.lines.now c.loop-line.line-index c.line-item.result c.loop-line-test.true in
    let e = length-rows c.args.lines.now in
    let s = ap (λ x. length (line_bytes x)) c.line-item.is in
    grind (arith, nat_tests)

pub returns-then-size-left-clause-enough : goal.returns-then-size-left-clause-enough
returns-then-size-left-clause-enough c = λ h. absurd (omega (arith, h, c.loop-line.invariant, c.if-size-left.true, c.line_length-size.ensures.small, c.loop-line-test.true))

pub returns-clause-value : goal.returns-clause-value
returns-clause-value c =
    let e = length-rows c.args.lines.now in
    let s = ap (sum_by (λ x. length (line_bytes x))) (take_all c.loop-line.line-index c.args.lines.now c.loop-line-test.false) in
    grind (arith, nat_tests)
