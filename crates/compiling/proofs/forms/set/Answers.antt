use Rattle.std.proofs.Common.{◌≡◌, ap, ◌∙◌}
use Rattle.combining.specs.Table.{place}
use Rattle.combining.specs.Wording.{decision_by}
use Rattle.conditions.specs.Limited.{limited}
use Rattle.conditions.specs.Places.{holds, value_in}
use Rattle.conditions.specs.Transitions.{decision_in}
use Rattle.conditions.proofs.Growing.{holds_kept}
use Rattle.conditions.proofs.Spreading.{only-as}
use Rattle.compiling.proofs.forms.set.Goals as goal

pub returns-clause-decides : goal.returns-clause-decides
returns-clause-decides c rs ds i =
    let p = c.args.places.now in
    let q = c.decision_of-decision.new.self in
    let g = c.decision_of-decision.ensures.grows in
    let d = decision_in c.tabulate.result i.state in
    let v = g.kept rs c.args.target c.requires.target in
    let f = holds_kept g rs c.args.on_permit c.requires.permits in
    let h = holds_kept g rs c.args.on_deny c.requires.denies in
    let e : limited (value_in q rs c.args.target) (holds q rs c.args.on_permit) (holds q rs c.args.on_deny) d ≡ limited (value_in p rs c.args.target) (holds p rs c.args.on_permit) (holds p rs c.args.on_deny) (decision_by c.args.algorithm ds) =
    ap (λ v. limited v (holds q rs c.args.on_permit) (holds q rs c.args.on_deny) d) v
    ∙ ap (λ b. limited (value_in p rs c.args.target) b (holds q rs c.args.on_deny) d) f
    ∙ ap (λ b. limited (value_in p rs c.args.target) (holds p rs c.args.on_permit) b d) h
    ∙ ap (limited (value_in p rs c.args.target) (holds p rs c.args.on_permit) (holds p rs c.args.on_deny)) (c.tabulate.ensures.decision i.state ds i.bound i.stands) in
    only-as c.limited.new.self rs c.limited.result (ap place e) (c.limited.ensures.holds rs d (c.decision_of-decision.ensures.holds rs i.state i.bound i.only))
