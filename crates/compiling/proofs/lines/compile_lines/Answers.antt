use Rattle.std.proofs.Common.{◌≡◌, ◌+◌, length, [], slice_set, sym, ap, ◌∙◌, subst, inl, inr, arith, rules}
use Rattle.std.proofs.lemmas.Bool.{cases_eq}
use Rattle.std.proofs.lemmas.List.{length-set}
use Rattle.policy.specs.Lines.{family_of, line_at}
use Rattle.conditions.proofs.Growing.{grows_both, grows_more}
use Rattle.compiling.specs.Written.{AllSay}
use Rattle.compiling.proofs.Saying.{all_more, first_expression, last_says}
use Rattle.compiling.proofs.lines.compile_lines.Goals as goal

pub loop-place-preserved : goal.loop-place-preserved
loop-place-preserved c =
    let n = c.loop-place.place in
    let ls = c.args.lines.now in
    let g = c.loop-place.invariant.grows in
    let e = c.compile_line-found.ensures in
    let long = c.loop-place.invariant.long in
    let few = c.requires.tree.few in
    let test = c.loop-place-test.true in
    record {
      grows = elim (cases_eq n 0) [
        | inl q ↦ grows_more (grows_both g (e.expression (ap (λ k. family_of (line_at ls (k + 1))) q ∙ first_expression ls c.requires.tree))) (omega (arith, q))
        | inr q ↦ grows_more (grows_both g e.grows) (omega (arith, q))
      ];
      long = length-set c.loop-place.written c.from.result c.compile_line-found.result ∙ long;
      said = λ rs.
          subst (λ k. AllSay (n + 1 + 1) ls c.compile_line-found.new.places rs c.algorithms-algorithms.result (slice_set c.loop-place.written k c.compile_line-found.result)) (sym c.from.ensures)
          (all_more e.grows ls rs c.algorithms-algorithms.result c.loop-place.written (n + 1) c.compile_line-found.result (omega (arith, long, few, test)) (c.loop-place.invariant.said rs) (e.says rs));
    }

pub returns-clause-within : goal.returns-clause-within
returns-clause-within c =
    let q : c.loop-place.place ≡ length c.args.lines.now = search rules in
    (last_says c.args.lines.now c.requires.tree c.loop-place.places [] c.algorithms-algorithms.result c.loop-place.written c.loop-place.place q (c.loop-place.invariant.said []) c.named.result c.named.ensures c.decision.result c.decision.ensures).0

pub returns-clause-decides : goal.returns-clause-decides
returns-clause-decides c rs =
    let q : c.loop-place.place ≡ length c.args.lines.now = search rules in
    (last_says c.args.lines.now c.requires.tree c.loop-place.places rs c.algorithms-algorithms.result c.loop-place.written c.loop-place.place q (c.loop-place.invariant.said rs) c.named.result c.named.ensures c.decision.result c.decision.ensures).1
