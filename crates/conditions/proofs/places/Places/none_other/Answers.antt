use Rattle.std.proofs.Common.{ap, ◌∙◌, ◌||◌, rules}
use Rattle.std.specs.Prelude.{not}
use Rattle.conditions.specs.Places.{holds}
use Rattle.conditions.specs.States.{truth_at}
use Rattle.conditions.proofs.Growing.{grows_both, holds_kept, inside_kept}
use Rattle.conditions.proofs.Spreading.{some-more, none-some}
use Rattle.conditions.proofs.places.Places.none_other.Goals as goal

pub loop-t-preserved : goal.loop-t-preserved
loop-t-preserved c =
    let t = c.loop-t.t in
    let g = c.loop-t.invariant.grows in
    let i = c.requires.truths t (search rules) in
    record {
      grows = grows_both g c.either-some.ensures.grows;
      within = c.either-some.ensures.within;
      holds = λ rs x h.
          c.either-some.ensures.holds rs ∙ ap (λ b. holds c.loop-t.self rs c.loop-t.some || b) (c.unless_rest.ensures.holds c.loop-t.self rs)
          ∙ some-more x t c.args.rest (c.loop-t.invariant.holds rs x h) (λ n. holds_kept g rs (truth_at c.args.truths.now t) i ∙ h t (search rules) n);
    }

pub returns-clause-holds : goal.returns-clause-holds
returns-clause-holds c rs x l h = c.negation.ensures.holds rs ∙ ap not (c.loop-t.invariant.holds rs x h) ∙ none-some x c.loop-t.t c.args.rest (search rules)

pub either-some-requires-clause-second : goal.either-some-requires-clause-second
either-some-requires-clause-second c = c.unless_rest.ensures.within c.loop-t.self (inside_kept c.loop-t.invariant.grows (truth_at c.args.truths.now c.loop-t.t) (c.requires.truths c.loop-t.t (search rules)))
