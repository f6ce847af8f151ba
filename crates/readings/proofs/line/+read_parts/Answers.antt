use Rattle.std.proofs.Common.{[], sym, refl, arith, rules}
use Rattle.std.proofs.lemmas.Result.{err_from_is_err_and}
use Rattle.spelling.proofs.Cuts.{cut_shorter, parts_none, parts-some}
use Rattle.readings.proofs.Parts.{one_less, part-refused, part-read}
use Rattle.readings.proofs.line.+read_parts.Goals as goal

pub returns-in_err-last-in-None-clause-value : goal.returns-in_err-last-in-None-clause-value
returns-in_err-last-in-None-clause-value g t c =
    let p = err_from_is_err_and c.from_residual.result c.from_residual.ensures.1 in
    rw (p.1, p.2) (part-refused _ c.args.field _ c.args.rest.now c.args.rest [] (parts_none 32 c.args.rest.now (sym c.in-None.ensures)) c.as_slice.result c.as_slice.ensures.value c.read.result c.read.ensures _ c.in_err-last-in-None.ensures)

pub returns-in_err-next-in-Some-clause-value : goal.returns-in_err-next-in-Some-clause-value
returns-in_err-next-in-Some-clause-value g t c =
    let p = err_from_is_err_and c.from_residual-in_err-next-in-Some.result c.from_residual-in_err-next-in-Some.ensures.1 in
    rw (p.1, p.2) (part-refused _ c.args.field _ c.args.rest.now c.in-Some.first _ (parts-some 32 c.args.rest.now (c.in-Some.first.now, c.in-Some.others.now) (sym c.in-Some.ensures)) c.as_slice-in-Some.result c.as_slice-in-Some.ensures.value c.read-in-Some.result c.read-in-Some.ensures _ c.in_err-next-in-Some.ensures)

pub returns-in_ok-last-in-None-clause-value : goal.returns-in_ok-last-in-None-clause-value
returns-in_ok-last-in-None-clause-value g t c =
    part-read _ c.args.field _ c.args.rest.now c.args.rest [] (parts_none 32 c.args.rest.now (sym c.in-None.ensures)) c.as_slice.result c.as_slice.ensures.value c.read.result c.read.ensures _ c.in_ok-last-in-None.ensures _ _ (refl, c.push_reserved.ensures.items)

pub returns-in_ok-next-in-Some-clause-len : goal.returns-in_ok-next-in-Some-clause-len
returns-in_ok-next-in-Some-clause-len g t c =
    let e = one_less c.args.rest.now (c.in-Some.first.now, c.in-Some.others.now) (sym c.in-Some.ensures) in
    omega (arith, e, c.push_reserved-in-Some.ensures.len, c.read_parts.ensures.len)

pub returns-in_ok-next-in-Some-clause-value : goal.returns-in_ok-next-in-Some-clause-value
returns-in_ok-next-in-Some-clause-value g t c =
    part-read _ c.args.field _ c.args.rest.now c.in-Some.first _ (parts-some 32 c.args.rest.now (c.in-Some.first.now, c.in-Some.others.now) (sym c.in-Some.ensures)) c.as_slice-in-Some.result c.as_slice-in-Some.ensures.value c.read-in-Some.result c.read-in-Some.ensures _ c.in_ok-next-in-Some.ensures _ _
    (rw (← c.push_reserved-in-Some.ensures.items) c.read_parts.ensures.value)

pub read_parts-requires : goal.read_parts-requires
read_parts-requires g t c κs within =
    let e = one_less c.args.rest.now (c.in-Some.first.now, c.in-Some.others.now) (sym c.in-Some.ensures) in
    let h = cut_shorter 32 c.args.rest.now (c.in-Some.first.now, c.in-Some.others.now) (sym c.in-Some.ensures) in
    let p = c.requires.room in
    let q = c.requires.few in
    let n = c.push_reserved-in-Some.ensures in
    (search rules, (within.0, (within.1, (c.requires.callable, (omega (arith, e, p, n.len, n.capacity), omega (arith, e, q))))))
