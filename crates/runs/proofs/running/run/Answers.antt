use Rattle.std.proofs.Common.{sym}
use Rattle.gate.specs.Book.{new_book}
use Rattle.trees.specs.Known.{nothing}
use Rattle.runs.proofs.Laws.{law_of}
use Rattle.runs.proofs.running.run.Goals as goal

pub returns-clause-law : goal.returns-clause-law
returns-clause-law g c =
    let made = c.in_ok-gate.ensures.shows nothing in
    let played = c.play.ensures (new_book c.args.bias c.args.places) (nothing, sym made.0, made.1) in
    law_of g.V.Service.meaning _ _ _ _ c.play.new.gate _ _ _ played.0 played.1
