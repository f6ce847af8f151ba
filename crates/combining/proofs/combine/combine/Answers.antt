-- A set that stops has a final decision, which the children that it leaves out would keep.
use Rattle.std.proofs.Common.{◌≡◌, List, ◌∷◌, ◌++◌, map, take, drop, sym, ap, ◌∙◌, take-append-drop}
use Rattle.std.proofs.lemmas.List.{map-append}
use Rattle.combining.specs.declared.decision.Decision.{Decision}
use Rattle.combining.proofs.Visits.{stopped_decides}
use Rattle.combining.proofs.combine.combine.Goals as goal

pub returns-then-stops-clause-decides : goal.returns-then-stops-clause-decides
returns-then-stops-clause-decides g c =
    let w = g.G.CombiningAlgorithm.wording c.args.algorithm.now in
    let f = g.C.Decided.decision_of in
    let first : Decision = f c.args.first.now in
    let front = take c.loop-i.i c.args.rest.now in
    let back = drop c.loop-i.i c.args.rest.now in
    let seen : List Decision = first ∷ map f front in
    let all : seen ++ map f back ≡ first ∷ map f c.args.rest.now = ap (λ ds. first ∷ ds) (sym (map-append f front back) ∙ ap (map f) (take-append-drop c.loop-i.i c.args.rest.now)) in
    let reached = c.loop-i.invariant.reached in
    stopped_decides w (g.met.G.CombiningAlgorithm.stays c.args.algorithm.now) c.args.strategy seen (map f back) _ c.is_final.result c.stops.result c.decision-then-stops.result
    all (c.is_final.ensures seen reached) c.stops.ensures c.if-stops.true (c.decision-then-stops.ensures seen reached)
