use Rattle.std.proofs.Common.{◌+◌, ◌<◌, ◌≤◌, ◌∙◌, arith, rules}
use Rattle.trees.specs.Known.{known as known_leaf, nothing}
use Rattle.trees.proofs.Count.{few_at}
use Rattle.deciding.specs.Known.{size}
use Rattle.deciding.proofs.Spans.{kept_next}
use Rattle.deciding.proofs.memory.Memory.respond_all.Goals as goal

pub respond_line-decision-requires-clause-room : goal.respond_line-decision-requires-clause-room
respond_line-decision-requires-clause-room c =
    let known = c.args.known.now in
    let n = c.loop-number.number in
    let hi : n ≤ size known = search rules in
    let f = few_at (known_leaf known.readings.now) known.lines.now known.tree n (search rules) hi nothing in
    let t = known.tree.few in
    let i = c.loop-number.invariant.few in
    let p = c.loop-number.self.number_places in
    omega (arith, f, t, i, p)

pub loop-number-preserved : goal.loop-number-preserved
loop-number-preserved c =
    let known = c.args.known.now in
    let n = c.loop-number.number in
    let hi : n ≤ size known = search rules in
    let f = few_at (known_leaf known.readings.now) known.lines.now known.tree n (search rules) hi nothing in
    let t = known.tree.few in
    let i = c.loop-number.invariant.few in
    let l = c.respond_line-decision.ensures.responds.adds.len in
    record {
      kept = kept_next known n c.from.result c.loop-number.self.responses c.respond_line-decision.new.self.responses c.loop-number.self.numbers c.respond_line-decision.new.self.numbers _ _ _
          c.respond_line-decision.ensures.same c.from.ensures (search rules) (search rules) (search rules) c.len-start.ensures c.len.ensures c.respond_line-decision.ensures.responds c.loop-number.invariant.kept;
      few = omega (arith, f, t, i, l);
      places = c.respond_line-decision.ensures.places ∙ c.loop-number.invariant.places;
    }

pub returns-2-clause-kept : goal.returns-2-clause-kept
returns-2-clause-kept c = λ k lo hi.
    let known = c.args.known.now in
    let n = c.loop-number.number in
    let h : k < n + 1 = omega (arith, c.last-number-end.ensures) in
    kept_next known n c.from.result c.loop-number.self.responses c.respond_line-decision.new.self.responses c.loop-number.self.numbers c.respond_line-decision.new.self.numbers _ _ _
    c.respond_line-decision.ensures.same c.from.ensures (search rules) (search rules) (search rules) c.len-start.ensures c.len.ensures c.respond_line-decision.ensures.responds c.loop-number.invariant.kept k lo h
