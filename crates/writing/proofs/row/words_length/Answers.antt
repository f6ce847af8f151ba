use Rattle.std.proofs.Common.{rules, arith}
use Rattle.std.proofs.lemmas.Iterator.{YieldsList-from_slice}
use Rattle.std.proofs.lemmas.Iterator.Adapters.{fits_from_length, at_most_from_yields_List}
use Rattle.writing.proofs.row.words_length.Goals as goal

pub returns-clause-small : goal.returns-clause-small
returns-clause-small c =
    let h = c.sum.ensures.runs tt in
    let b = fits_from_length _ _ 6 151 (at_most_from_yields_List (YieldsList-from_slice c.args.words.now cc) c.requires) c.map.ensures.closure (omega arith) (λ x r q k. search rules) h.0 h.0.seen h.1 in
    omega (arith, b, h.3)
