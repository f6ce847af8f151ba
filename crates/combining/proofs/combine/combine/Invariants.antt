-- What the fold keeps: its state stands for the children seen, and the count to come is that from the start.
use Rattle.std.proofs.Common.{◌≡◌, List, [], ◌∷◌, map, take, drop}
use Rattle.combining.specs.declared.decision.Decision.{Decision}
use Rattle.combining.specs.Combined.{visits}
use Rattle.combining.proofs.combine.combine.Given as goal

abbrev pub invariant-loop-i : goal.invariant-loop-i
invariant-loop-i g l =
    let w = g.G.CombiningAlgorithm.wording l.algorithm in
    let first : Decision = g.C.Decided.decision_of l.fn.first in
    let seen : List Decision = first ∷ map g.C.Decided.decision_of (take l.i l.rest) in
    record {
      reached : g.G.CombiningAlgorithm.reached l.algorithm l.state seen;
      visits : visits w l.strategy seen (map g.C.Decided.decision_of (drop l.i l.rest)) ≡ visits w l.strategy (first ∷ []) (map g.C.Decided.decision_of l.rest);
    }
