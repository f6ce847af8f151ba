use Rattle.std.proofs.Common.{◌≡◌, sym, ap, ◌∙◌}
use Rattle.std.proofs.lemmas.Bool.{false≢true}
use Rattle.variants.specs.VisitingAll.{file_visiting_all}
use Rattle.gate.specs.Book.{fit_answer, fit_next}
use Rattle.gate.specs.Shown.{book_of}
use Rattle.rehearsal.proofs.Standing.{own_variant}
use Rattle.rehearsal.proofs.visiting_all.VisitingAllFitter.fit.Goals as goal

pub returns-in-Some-clause-answer : goal.returns-in-Some-clause-answer
returns-in-Some-clause-answer c m = c.fit.ensures.answer m ∙ ap (fit_answer (book_of c.args.gate.now m)) c.in-Some.ensures.written

pub returns-in-None-clause-answer : goal.returns-in-None-clause-answer
returns-in-None-clause-answer c m =
    let own : file_visiting_all c.args.file.now ≡ c.args.file.now = own_variant c.args.file.now (λ h. false≢true (c.in-None.ensures.accepted.1 h)) in
    c.fit-in-None.ensures.answer m ∙ ap (fit_answer (book_of c.args.gate.now m)) (sym own)

pub returns-in-None-clause-next : goal.returns-in-None-clause-next
returns-in-None-clause-next c m =
    let own : file_visiting_all c.args.file.now ≡ c.args.file.now = own_variant c.args.file.now (λ h. false≢true (c.in-None.ensures.accepted.1 h)) in
    c.fit-in-None.ensures.next m ∙ ap (fit_next (book_of c.args.gate.now m)) (sym own)
