use Rattle.std.proofs.Common.{◌≡◌, ◌≤◌, map, length, take, vec_items, vec_len, vec_capacity}
use Rattle.gate.specs.Book.{Book}
use Rattle.gate.specs.Shown.{Shows}
use Rattle.runs.specs.Requests.{request_of}
use Rattle.runs.specs.Pages.{Played, book_after}
use Rattle.runs.proofs.playing.play.Given as goal

abbrev pub invariant-loop-call : goal.invariant-loop-call
invariant-loop-call g l =
    (vec_len l.answers ≡ l.call-index) × (length l.calls ≤ vec_capacity l.answers)
    × ((b : Book) → Shows l.initial.gate b → Shows l.gate (book_after b (map (request_of g.F.Fitter.fitted g.S.Source.means) (take l.call-index l.calls)))
    × Played g.V.Service.meaning b l.initial.gate l.initial.service (map (request_of g.F.Fitter.fitted g.S.Source.means) (take l.call-index l.calls)) l.gate l.service (vec_items l.answers))
