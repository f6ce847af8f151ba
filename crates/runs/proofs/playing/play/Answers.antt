use Rattle.std.proofs.Common.{◌≡◌, ◌+◌, [], ◌∷◌, ◌++◌, map, take, refl, sym, ap, ◌∙◌, subst, rules}
use Rattle.std.proofs.lemmas.List.{take_all, take_more}
use Rattle.gate.specs.Shown.{Shows}
use Rattle.runs.specs.Requests.{request_of}
use Rattle.runs.specs.Pages.{none, Played, book_after}
use Rattle.runs.proofs.Growing.{played_more}
use Rattle.runs.proofs.playing.play.Goals as goal

pub loop-call-init : goal.loop-call-init
loop-call-init g c = (search rules, c.requires.room, λ b shows. (shows, record { pages = []; each = none; gate = refl; service = refl; gives = c.requires.empty }))

pub loop-call-preserved : goal.loop-call-preserved
loop-call-preserved g c =
    let f = request_of g.F.Fitter.fitted g.S.Source.means in
    let i = c.loop-call.call-index in
    let calls = c.args.calls.now in
    let one : take (i + 1) calls ≡ take i calls ++ c.call-item.result ∷ [] =
    take_more calls i c.call-item.result c.loop-call-test.true ∙ ap (λ x. take i calls ++ x ∷ []) (sym c.call-item.is) in (
      search rules,
      search rules,
      λ b shows.
          let before = c.loop-call.invariant.2 b shows in
          let turn = c.answer-answer.ensures (book_after b (map f (take i calls))) before.0 in
          played_more g.V.Service.meaning f b _ _ calls i c.call-item.result one _ _ _ before.1 _ _ turn.1 c.push_reserved.ensures.items,
    )

pub returns : goal.returns
returns g c b shows =
    let f = request_of g.F.Fitter.fitted g.S.Source.means in
    subst (λ calls. Shows c.loop-call.gate (book_after b (map f calls)) × Played g.V.Service.meaning b c.args.gate.now c.args.service.now (map f calls) c.loop-call.gate c.loop-call.service c.loop-call.answers.items)
    (take_all c.loop-call.call-index c.args.calls.now c.loop-call-test.false) (c.loop-call.invariant.2 b shows)
