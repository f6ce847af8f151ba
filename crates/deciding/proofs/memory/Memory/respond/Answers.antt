use Rattle.std.proofs.Common.{get_or, ap, ◌∙◌, arith}
use Rattle.trees.specs.Known.{known as known_leaf, nothing}
use Rattle.trees.proofs.Count.{few_at}
use Rattle.deciding.specs.Known.{size}
use Rattle.deciding.specs.Kept.{unset}
use Rattle.deciding.proofs.Spans.{means_long}
use Rattle.deciding.proofs.memory.Memory.respond.Goals as goal

pub fill-requires-clause-few : goal.fill-requires-clause-few
fill-requires-clause-few c =
    let known = c.args.known.now in
    let s = known.tree.some in
    let t = c.respond_all.ensures.kept (size known) s (omega arith) in
    let e = ap (λ i. (get_or c.respond_all.new.self.responses i unset).count) (c.from.ensures ∙ c.last.ensures) in
    let n = means_long _ _ _ t in
    let f = few_at (known_leaf known.readings.now) known.lines.now known.tree (size known) s (omega arith) nothing in
    let w = known.tree.few in
    omega (arith, e, n, f, w)
