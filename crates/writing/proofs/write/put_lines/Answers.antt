use Rattle.std.proofs.Common.{[], length, ap, sym, ◌∙◌, arith}
use Rattle.std.specs.List.{flat_map}
use Rattle.std.proofs.lemmas.List.{take_all}
use Rattle.writing.specs.Rows.{line_bytes}
use Rattle.writing.proofs.Puts.{room, one_more, alike}
use Rattle.writing.proofs.Rows.{rows_flat}
use Rattle.writing.proofs.write.put_lines.Goals as goal

pub put_line-place-requires : goal.put_line-place-requires
put_line-place-requires c =
    let l = c.loop-line in
    let h = room line_bytes c.args.lines.now l.line-index c.line-item.result c.loop-line-test.true c.line-item.is [] l.invariant in
    omega (arith, h, l.invariant.len, ap length (rows_flat c.args.lines.now), c.requires)

pub loop-line-preserved : goal.loop-line-preserved
loop-line-preserved c =
    let l = c.loop-line in
    one_more line_bytes c.args.lines.now l.line-index c.line-item.result c.loop-line-test.true c.line-item.is [] l.invariant c.put_line-place.ensures

pub returns : goal.returns
returns c =
    let l = c.loop-line in
    alike (ap (flat_map line_bytes) (take_all l.line-index c.args.lines.now c.loop-line-test.false) ∙ sym (rows_flat c.args.lines.now)) l.invariant
