use Rattle.std.proofs.Common.{map, take, sym, ap, ◌∙◌}
use Rattle.combining.specs.Wording.{joins_by}
use Rattle.deciding.specs.Kept.{response_in, unset, duties_by}
use Rattle.deciding.proofs.Spans.{first_and_others}
use Rattle.deciding.proofs.Closing.{combined-is}
use Rattle.deciding.proofs.children.combine_children.Goals as goal

pub returns-clause-combines : goal.returns-clause-combines
returns-clause-combines c = λ os r rs e.
    let ks = c.args.children.now in
    let v = c.combine-combined.result.visited in
    let d = c.combine-combined.result.decision in
    let s = first_and_others ks unset c.requires in
    combined-is c.args.combining os _ _ r rs v d (ap (map (response_in os)) (sym s) ∙ e) c.combine-combined.ensures.visits c.combine-combined.ensures.visited
    ∙ ap (λ xs. record { decision = d; duties = duties_by (joins_by c.args.combining.algorithm) d (map (response_in os) (take v xs)) }) (sym s)
    ∙ ap (λ j. record { decision = d; duties = duties_by j d (map (response_in os) (take v ks)) }) (sym c.joins.ensures)
