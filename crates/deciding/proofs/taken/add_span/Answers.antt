use Rattle.std.proofs.Common.{◌<◌, length, vec_items, ◌∙◌, arith, rules}
use Rattle.deciding.proofs.Spans.{copy_more}
use Rattle.deciding.proofs.taken.add_span.Goals as goal

pub loop-place-preserved : goal.loop-place-preserved
loop-place-preserved c =
    let w : c.loop-place.place < length (vec_items c.args.numbers.now) = search rules in
    record {
      items = c.push_reserved.ensures.items ∙ copy_more c.args.start c.loop-place.place (vec_items c.args.numbers.now) (vec_items c.loop-place.numbers) c.index-number.result.now (omega arith) w c.loop-place.invariant.items (search rules);
      len = omega arith;
      cap = search rules;
    }
