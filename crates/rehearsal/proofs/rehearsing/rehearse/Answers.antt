use Rattle.std.proofs.Common.{sym}
use Rattle.trees.specs.Known.{nothing}
use Rattle.gate.specs.Book.{new_book}
use Rattle.runs.proofs.Laws.{law_of}
use Rattle.rehearsal.proofs.Standing.{beside}
use Rattle.rehearsal.proofs.rehearsing.rehearse.Goals as goal

pub returns-clause-first : goal.returns-clause-first
returns-clause-first g c =
    let made = c.in_ok-gate.ensures.shows nothing in
    let played = c.play.ensures (new_book c.args.bias c.args.places) (nothing, sym made.0, made.1) in
    law_of g.V.Service.meaning _ _ _ _ c.play.new.gate _ _ _ played.0 played.1

pub returns-clause-second : goal.returns-clause-second
returns-clause-second g c =
    let made = c.in_ok-other.ensures.shows nothing in
    let played = c.play-2.ensures (new_book c.args.bias c.args.places) (nothing, sym made.0, made.1) in
    law_of g.W.Service.meaning _ _ _ _ c.play-2.new.gate _ _ _ played.0 played.1

pub returns-clause-beside : goal.returns-clause-beside
returns-clause-beside g c =
    let made = c.in_ok-gate.ensures.shows nothing in
    let one = (c.play.ensures (new_book c.args.bias c.args.places) (nothing, sym made.0, made.1)).1 in
    let made-2 = c.in_ok-other.ensures.shows nothing in
    let other = (c.play-2.ensures (new_book c.args.bias c.args.places) (nothing, sym made-2.0, made-2.1)).1 in
    beside g.S.Source.means g.V.Service.meaning g.W.Service.meaning c.args.bias c.args.places c.args.calls.now _ _ _ _ _ _ one.each other.each one.gives other.gives
