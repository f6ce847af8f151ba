use Rattle.std.proofs.Common.{◌+◌, ◌-◌, ◌*◌, get_or, drop, arith, rules}
use Rattle.std.proofs.lemmas.List.{at_drop_more, at_drop_all}
use Rattle.std.proofs.lemmas.Bool.Decides.{nat_tests}
use Rattle.spelling.specs.Numbers.{digits_after}
use Rattle.spelling.proofs.Digits.{over-limit}
use Rattle.spelling.proofs.number.digits.Goals as goal

pub returns-then-not-is_digit : goal.returns-then-not-is_digit
returns-then-not-is_digit c = let e = at_drop_more (digits_after c.loop-b.n) c.args.s.now c.loop-b.b-index 0 (search rules) in grind (arith, nat_tests)

pub returns-then-longer-from : goal.returns-then-longer-from
returns-then-longer-from c = let e = at_drop_more (digits_after c.loop-b.n) c.args.s.now c.loop-b.b-index 0 (search rules) in
    let d = get_or c.args.s.now c.loop-b.b-index 0 in
    let o = over-limit c.args.limit (c.loop-b.n * 10 + (d - 48)) (drop (c.loop-b.b-index + 1) c.args.s.now) (omega arith) in
    grind (arith, nat_tests)

pub loop-b-preserved : goal.loop-b-preserved
loop-b-preserved c = let e = at_drop_more (digits_after c.loop-b.n) c.args.s.now c.loop-b.b-index 0 (search rules) in grind (arith, nat_tests)

pub returns : goal.returns
returns c = let e = at_drop_all (digits_after c.loop-b.n) c.args.s.now c.loop-b.b-index (search rules) in grind (arith, nat_tests)
