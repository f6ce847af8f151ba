use Rattle.std.proofs.Common.{◌≡◌, false, ◌+◌, ◌-◌, ap, ◌∙◌, arith, rules}
use Rattle.std.proofs.lemmas.List.{get_or_default}
use Rattle.policy.specs.declared.line.Line.TheVariants as l
use Rattle.compiling.specs.Handed.{item_named, given_by, algorithm_at}
use Rattle.compiling.proofs.Naming.{given_next}
use Rattle.compiling.proofs.algorithms.algorithms.Goals as goal

pub loop-place-preserved : goal.loop-place-preserved
loop-place-preserved c =
    let m = c.loop-place.place in
    let ls = c.args.lines.now in
    let lo = c.loop-place-test.true in
    let e : m - 1 + 1 ≡ m = omega (arith, lo) in
    let few = c.requires.few in
    let hi = c.loop-place.auto.place in
    let long = c.loop-place.invariant.long in
    let y = c.index-lines-place.result in
    record {
      long = search rules;
      given = λ n h u.
          given_next ls c.requires.above c.requires.once c.loop-place.algorithms m lo hi (omega (arith, few, long)) c.loop-place.invariant.given
          y c.item_named.result c.given_by.result (c.index-lines-place.is ∙ get_or_default ls (m - 1) y (l.Truth false) (omega (arith, lo, hi)))
          (c.item_named.ensures ∙ ap (λ k. item_named k y) e) (c.given_by.ensures ∙ ap (λ k. given_by (algorithm_at c.loop-place.algorithms k) y) e) n (omega (arith, h)) u;
    }
