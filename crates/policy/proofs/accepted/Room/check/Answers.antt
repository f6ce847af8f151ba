use Rattle.std.proofs.Common.{◌≡◌, ◌-◌, ℕ, List, [], length, Some, Result, vec_items, sym, ap, ◌∙◌, rules}
use Rattle.refusals.specs.declared.place.Rejection.{Rejection}
use Rattle.policy.specs.declared.line.Line.{Line}
use Rattle.policy.specs.Check.{Marks, no_marks, body_of, header_of, after_header, check_of}
use Rattle.policy.proofs.Complete.{not_refused}
use Rattle.policy.proofs.Laws.{spells}
use Rattle.policy.proofs.accepted.Room.check.Goals as goal

-- what is read after line 0, with no line above and no mark
module _ (file rest : List ℕ) (ls : List Line) (ms : Marks) (r : Result (List Line) Rejection) where
  read : header_of file ≡ Some rest → ls ≡ [] → ms ≡ no_marks → r ≡ body_of (256 - length ls) ls ms rest → check_of file ≡ r
  read passed empty unnamed body = ap after_header passed ∙ sym (body ∙ (λ i. body_of (256 - length (empty i)) (empty i) (unnamed i) rest))

pub invariant_of-result : goal.invariant_of-result
invariant_of-result c =
    let h = read c.args.file.now c.in-Some.body.now (vec_items c.new-draft.result.lines) c.new-draft.result.named _ (search rules) (search rules) (search rules) c.in-Ok.ensures.value in
    let t = (spells c.args.file.now (vec_items c.read_body-read.new.self.lines) h).tree in
    record { enough = search rules; some = t.some; few = t.few; above = t.above; once = t.once; last = t.last }

pub returns-in-Ok : goal.returns-in-Ok
returns-in-Ok c =
    let h = read c.args.file.now c.in-Some.body.now (vec_items c.new-draft.result.lines) c.new-draft.result.named _ (search rules) (search rules) (search rules) c.in-Ok.ensures.value in
    record { value = (h, search rules); trees = spells c.args.file.now (vec_items c.read_body-read.new.self.lines) h }

pub returns-in-Err : goal.returns-in-Err
returns-in-Err c =
    let h = read c.args.file.now c.in-Some.body.now (vec_items c.new-draft.result.lines) c.new-draft.result.named _ (search rules) (search rules) (search rules) c.in-Err.ensures.value in
    record { value = (h, search rules); trees = λ ls s. not_refused c.args.file.now ls c.in-Err.rejection s h }
