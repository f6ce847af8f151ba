use Rattle.std.proofs.Common.{◌++◌, ◌∷◌, ◌∙◌}
use Rattle.writing.proofs.Puts.{both, shown}
use Rattle.writing.proofs.word.combining_word.Goals as goal

pub returns : goal.returns
returns c =
    c.word.ensures ∙ shown (both c.put-after_name.ensures (both c.put-after_point.ensures c.put-end.ensures))
    ∙ (λ i. c.algorithm_word.ensures.value i ++ 46 ∷ c.strategy_word.ensures.value i)
