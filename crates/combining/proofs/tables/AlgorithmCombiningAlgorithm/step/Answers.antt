-- A state that stands for some children stands, after its entry, for one child more.
use Rattle.std.proofs.Common.{◌≡◌, List, [], ◌∷◌, ◌++◌, sym, ap, ◌∙◌}
use Rattle.spelling.specs.declared.algorithm.Algorithm.{Algorithm}
use Rattle.combining.specs.declared.decision.Decision.{Decision}
use Rattle.combining.specs.Table.{entry, Reached}
use Rattle.combining.specs.Merging.{one_more}
use Rattle.combining.proofs.tables.AlgorithmCombiningAlgorithm.step.Goals as goal

next : (a : Algorithm) (s d r : Decision) → r ≡ entry a s d → (ds : List Decision) → Reached a s ds → Reached a r (ds ++ d ∷ [])
next a s d r e [] h = absurd h.1
next a s d r e (x ∷ ds) h = (e ∙ ap (λ t. entry a t d) h.0 ∙ sym (one_more a x ds d), tt)

pub returns : goal.returns
returns c = next c.args.self.now c.args.state c.args.child c.cell.result c.cell.ensures
