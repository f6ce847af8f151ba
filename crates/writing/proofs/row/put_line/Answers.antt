use Rattle.std.proofs.Common.{[], ◌∷◌, ◌++◌, ap, ◌∙◌}
use Rattle.std.specs.List.{flat_map}
use Rattle.std.proofs.lemmas.List.{take_all}
use Rattle.policy.specs.Spelt.{fields_for}
use Rattle.writing.proofs.Puts.{one_more, both, alike}
use Rattle.writing.proofs.Rows.{spaced, later, row_spaced}
use Rattle.writing.proofs.row.put_line.Goals as goal

pub loop-word-preserved : goal.loop-word-preserved
loop-word-preserved c =
    let f = fields_for c.args.line.now in
    let l = c.loop-word in
    one_more spaced (later c.row_of-row.result) l.word-index c.word-item.result c.loop-word-test.true c.word-item.is f.kind l.invariant
    (alike (ap spaced c.as_bytes-in-loop-word.ensures.value) (both c.put-place-in-loop-word.ensures c.put-place-in-loop-word-2.ensures))

pub returns : goal.returns
returns c =
    let f = fields_for c.args.line.now in
    let l = c.loop-word in
    alike (ap (λ xs. (f.kind ++ flat_map spaced xs) ++ 10 ∷ []) (take_all l.word-index (later c.row_of-row.result) c.loop-word-test.false) ∙ row_spaced c.row_of-row.result f c.row_of-row.ensures)
    (both l.invariant c.put.ensures)
