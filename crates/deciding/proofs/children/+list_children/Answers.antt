use Rattle.std.proofs.Common.{◌≡◌, [], ◌∷◌, ◌++◌, get_or, vec_items, sym, ap, ◌∙◌, append_assoc, arith, rules}
use Rattle.std.proofs.lemmas.List.{append-nil}
use Rattle.deciding.specs.Known.{response_at}
use Rattle.deciding.specs.Kept.{MeanAll, no_response, unset}
use Rattle.deciding.proofs.Meaning.{earlier_responses, items_are, no_items, item_below, earlier_below}
use Rattle.deciding.proofs.Spans.{mean_more, kept_less, none_means, mean_as}
use Rattle.deciding.proofs.children.+list_children.Goals as goal
use Rattle.deciding.proofs.children.+list_children.Goals.{in-Some, in_default-earlier}

pub returns-after-earlier-clause-children : goal.returns-after-earlier-clause-children
returns-after-earlier-clause-children t c = λ os rs kept mean.
    let known = c.args.known.now in
    let n = c.args.last in
    let p = c.in-Item.policy in
    let i = c.in-Item.earlier in
    let b = item_below known n c.requires.low c.requires.high c.in-Item.ensures in
    let before : MeanAll (vec_items c.match-earlier.children) os (rs ++ earlier_responses known i) =
    elim c.match-earlier.branch [
      | in-Some w ↦
          let e = earlier_below known n c.requires.low c.requires.high c.in-Item.ensures w.in-Some.is in
          let e1 = e.1 in
          mean_as (ap vec_items w.children-is) (ap (λ o. rs ++ earlier_responses known o) w.in-Some.is)
          (w.list_children.ensures.children os rs (kept_less n w.in-Some.number known c.args.responses.now os (omega (arith, e1)) kept) mean)
      | in_default-earlier w ↦ mean_as (ap vec_items w.children-is) (ap (λ o. rs ++ earlier_responses known o) w.in_default-earlier.is ∙ append-nil rs) mean
    ] in
    let at : c.from.result ≡ p = search rules in
    mean_as (c.push_reserved.ensures.items ∙ ap (λ j. vec_items c.match-earlier.children ++ get_or c.args.responses.now j unset ∷ []) at)
    (ap (λ xs. rs ++ xs) (items_are known n c.requires.low c.requires.high i c.in-Item.ensures) ∙ sym (append_assoc rs (earlier_responses known i) (response_at known p ∷ [])))
    (mean_more (vec_items c.match-earlier.children) (get_or c.args.responses.now p unset) os (rs ++ earlier_responses known i) (response_at known p) before (kept p b.0 b.1))

pub returns-in_default-clause-children : goal.returns-in_default-clause-children
returns-in_default-clause-children t c = λ os rs kept mean.
    mean_as c.push_reserved-in_default.ensures.items (ap (λ xs. rs ++ xs) (no_items c.args.known.now c.args.last c.requires.low c.requires.high _ c.line.ensures c.in_default.not-Item))
    (mean_more (vec_items c.args.children.now) no_response os rs _ mean (none_means os))
