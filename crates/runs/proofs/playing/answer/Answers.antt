use Rattle.std.proofs.Common.{[], refl, sym, ap, subst}
use Rattle.std.specs.Prelude.{cond, is_ok}
use Rattle.gate.specs.declared.gate.Gate.{Gate}
use Rattle.gate.specs.Shown.{book_of, Agrees}
use Rattle.runs.specs.declared.call.Answer.TheVariants.{Fitted, Taken, Decided, Seen, Enforced}
use Rattle.runs.specs.Requests.{fit, read, decide, quick, enforce, request_of}
use Rattle.runs.proofs.Turning.{turned}
use Rattle.runs.proofs.playing.answer.Goals as goal

pub returns-in-Fit : goal.returns-in-Fit
returns-in-Fit g c =
    turned g.V.Service.meaning c.args.gate.now c.fit.new.gate (λ k. k) [] _ _ _ (fit (g.F.Fitter.fitted c.in-Fit.file.now)) _ (ap (request_of g.F.Fitter.fitted g.S.Source.means) c.in-Fit.is)
    (λ k h. c.fit.ensures.next k) c.fit.ensures.agrees (λ k h. ap Fitted (c.fit.ensures.answer k)) (λ k h. (refl, refl))

pub returns-in-Read : goal.returns-in-Read
returns-in-Read g c =
    let m = g.S.Source.means c.in-Read.source.now in
    turned g.V.Service.meaning c.args.gate.now c.read.new.self (λ k. cond (is_ok c.read.result) m k) [] _ _ _ (read m) _ (ap (request_of g.F.Fitter.fitted g.S.Source.means) c.in-Read.is)
    (λ k h. c.read.ensures.next k) c.read.ensures.agrees (λ k h. ap Taken (c.read.ensures.answer k)) (λ k h. (refl, refl))

pub returns-in-Decide : goal.returns-in-Decide
returns-in-Decide g c =
    turned g.V.Service.meaning c.args.gate.now c.decide.new.self (λ k. k) [] _ _ _ decide _ (ap (request_of g.F.Fitter.fitted g.S.Source.means) c.in-Decide.is)
    c.decide.ensures.next c.decide.ensures.agrees (λ k h. ap Decided (c.decide.ensures.answer k h)) (λ k h. (refl, refl))

pub returns-in-Quick : goal.returns-in-Quick
returns-in-Quick g c =
    let same = c.quick.ensures.same in
    turned g.V.Service.meaning c.args.gate.now c.quick.new.self (λ k. k) [] _ _ _ quick _ (ap (request_of g.F.Fitter.fitted g.S.Source.means) c.in-Quick.is)
    (λ k h. ap (λ (x : Gate). book_of x k) same) (λ k h. subst (λ (x : Gate). Agrees x k) (sym same) h)
    (λ k h. ap Seen (c.quick.ensures.answer k h)) (λ k h. (refl, refl))

pub returns-in-Enforce : goal.returns-in-Enforce
returns-in-Enforce g c =
    let e = c.enforce.ensures.answer in
    turned g.V.Service.meaning c.args.gate.now c.enforce.new.self (λ k. k) e.0 _ _ _ enforce _ (ap (request_of g.F.Fitter.fitted g.S.Source.means) c.in-Enforce.is)
    (λ k h. c.enforce.ensures.next k) c.enforce.ensures.agrees (λ k h. ap Enforced e.1) (λ k h. e.2)
