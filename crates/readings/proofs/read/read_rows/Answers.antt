use Rattle.std.proofs.Common.{◌≡◌, false, eqb, length, vec_items, vec_len, sym, refl, ap, ◌∙◌, arith, rules}
use Rattle.std.proofs.lemmas.Result.{err_from_is_err_and}
use Rattle.std.proofs.lemmas.Bool.Decides.{nat_tests}
use Rattle.spelling.specs.Cuts.{parts}
use Rattle.spelling.proofs.Cuts.{cut_shorter}
use Rattle.readings.specs.Table.{rows_of}
use Rattle.readings.proofs.Parts.{after-nil}
use Rattle.readings.proofs.Rows.{full_none, no_end, stops, goes, line_room}
use Rattle.readings.proofs.read.read_rows.Goals as goal

pub loop-line-init : goal.loop-line-init
loop-line-init c =
    let z : vec_len c.args.cells.now ≡ 0 = let e = ap length c.requires.empty in search rules in
    (omega arith, omega (arith, z), refl, full_none c.args.width (vec_items c.args.cells.now) c.requires.empty, after-nil (rows_of 1 c.args.width (parts 10 c.args.body.now)))

pub returns-then-not-is_empty-clause-value : goal.returns-then-not-is_empty-clause-value
returns-then-not-is_empty-clause-value c =
    let l = c.loop-line in
    let some : eqb (length l.rest.now) 0 ≡ false = grind (arith, nat_tests) in
    rw c.of_line.ensures (no_end c.args.width l.rows (vec_items l.cells) l.rest.now _ l.invariant.4 some (sym c.in_default.ensures))

pub row_line-requires-clause-room : goal.row_line-requires-clause-room
row_line-requires-clause-room c =
    let l = c.loop-line in
    let e = line_room l.rest.now (c.in-Some.line.now, c.in-Some.after.now) (sym c.in-Some.ensures) in
    omega (arith, e, l.invariant.1, l.invariant.2, c.requires.room)

pub returns-in_err-at_line-clause-value : goal.returns-in_err-at_line-clause-value
returns-in_err-at_line-clause-value c =
    let l = c.loop-line in
    let p = err_from_is_err_and c.from_residual.result c.from_residual.ensures.1 in
    rw (p.1, p.2) (stops c.args.width l.rows (vec_items l.cells) l.rest.now _ l.invariant.4 (c.in-Some.line.now, c.in-Some.after.now) (sym c.in-Some.ensures)
    c.row_line.result (vec_items c.row_line.new.cells) c.row_line.ensures.value c.in_err-at_line.field-0.0 c.in_err-at_line.ensures)

pub loop-line-preserved : goal.loop-line-preserved
loop-line-preserved c =
    let l = c.loop-line in
    let e = line_room l.rest.now (c.in-Some.line.now, c.in-Some.after.now) (sym c.in-Some.ensures) in
    let s = cut_shorter 10 l.rest.now (c.in-Some.line.now, c.in-Some.after.now) (sym c.in-Some.ensures) in
    let g = goes c.args.width l.rows (vec_items l.cells) l.rest.now _ l.invariant.4 l.invariant.3 (c.in-Some.line.now, c.in-Some.after.now) (sym c.in-Some.ensures)
    c.row_line.result (vec_items c.row_line.new.cells) c.row_line.ensures.value c.in_ok-at_line.field-0 c.in_ok-at_line.ensures in
    (omega (arith, s, l.invariant.0), omega (arith, e, c.row_line.ensures.len, l.invariant.1), c.row_line.ensures.capacity ∙ l.invariant.2, g.0, g.1)
