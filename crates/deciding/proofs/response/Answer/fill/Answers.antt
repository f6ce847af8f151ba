use Rattle.std.proofs.Common.{◌≡◌, ◌+◌, ◌-◌, ◌++◌, List, map, take, drop, ap, ◌∙◌, arith}
use Rattle.combining.specs.Combined.{Response}
use Rattle.trees.specs.declared.duty.Duty.{Duty}
use Rattle.deciding.specs.Known.{due_at, read_dues}
use Rattle.deciding.proofs.Spans.{span_read}
use Rattle.deciding.proofs.response.Answer.fill.Goals as goal

pub returns-clause-answer : goal.returns-clause-answer
returns-clause-answer c =
    let R : List Duty → Response Duty = λ ds. record { decision = c.args.kept.decision; duties = ds } in
    let own = take (c.args.kept.start + c.args.kept.count - c.args.kept.start) (drop c.args.kept.start c.args.numbers.now) in
    let z : c.args.kept.start + c.args.kept.count - c.args.kept.start ≡ c.args.kept.count = omega arith in
    ap R (c.fulfil.ensures.added
    ∙ ap (λ xs. xs ++ read_dues c.args.known.now own) c.clear.ensures.items
    ∙ ap (λ n. map (due_at c.args.known.now) (take n (drop c.args.kept.start c.args.numbers.now))) z
    ∙ span_read (due_at c.args.known.now) c.args.numbers.now c.args.kept)
