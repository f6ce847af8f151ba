use Rattle.std.proofs.Common.{Some, None, sym, ap, ◌∙◌}
use Rattle.combining.specs.Combined.{Response}
use Rattle.trees.specs.declared.duty.Duty.{Duty}
use Rattle.trees.specs.Policies.{appended, bare}
use Rattle.trees.specs.Known.{nothing}
use Rattle.deciding.specs.Known.{duties_of}
use Rattle.deciding.proofs.Meaning.{rule_is, set-line_is, set-within, no_response_lem}
use Rattle.deciding.proofs.Adding.{responds_as, responds_bare, room_as}
use Rattle.deciding.proofs.memory.Memory.respond_line.Goals as goal

pub close-requires-clause-room : goal.close-requires-clause-room
close-requires-clause-room c =
    let known = c.args.known.now in
    room_as c.args.self.now.numbers _ _
    (ap (λ (r : Response Duty). r.duties) (rule_is known c.args.number c.requires.low c.requires.high None (λ x. c.in-None.ensures x) c.in-Rule.ensures c.value-target.ensures
    ∙ ap (λ d. appended nothing (duties_of known c.in-Rule.duty) (bare d)) (sym c.effect_decision.ensures)))
    c.requires.room

pub respond_set-requires-clause-permits : goal.respond_set-requires-clause-permits
respond_set-requires-clause-permits c = (set-within c.args.known.now c.args.number c.requires.low c.requires.high c.in-Set.ensures).0

pub respond_set-requires-clause-denies : goal.respond_set-requires-clause-denies
respond_set-requires-clause-denies c = (set-within c.args.known.now c.args.number c.requires.low c.requires.high c.in-Set.ensures).1

pub respond_set-requires-clause-room : goal.respond_set-requires-clause-room
respond_set-requires-clause-room c =
    room_as c.args.self.now.numbers _ _
    (ap (λ (r : Response Duty). r.duties) (set-line_is c.args.known.now c.args.number c.requires.low c.requires.high None (λ x. c.in-None-ended_by.ensures x) c.in-Set.ensures c.value-target-in-Set.ensures))
    c.requires.room

pub returns-in-Some-clause-responds : goal.returns-in-Some-clause-responds
returns-in-Some-clause-responds c =
    responds_bare c.args.known.now _ _ _ (rule_is c.args.known.now c.args.number c.requires.low c.requires.high (Some _) (λ x. c.in-Some.ensures x) c.in-Rule.ensures c.value-target.ensures)

pub returns-in-None-clause-responds : goal.returns-in-None-clause-responds
returns-in-None-clause-responds c =
    let known = c.args.known.now in
    responds_as known _ _ _ _ _
    (rule_is known c.args.number c.requires.low c.requires.high None (λ x. c.in-None.ensures x) c.in-Rule.ensures c.value-target.ensures
    ∙ ap (λ d. appended nothing (duties_of known c.in-Rule.duty) (bare d)) (sym c.effect_decision.ensures))
    c.close.ensures

pub returns-in-Some-ended_by-clause-responds : goal.returns-in-Some-ended_by-clause-responds
returns-in-Some-ended_by-clause-responds c =
    responds_bare c.args.known.now _ _ _ (set-line_is c.args.known.now c.args.number c.requires.low c.requires.high (Some _) (λ x. c.in-Some-ended_by.ensures x) c.in-Set.ensures c.value-target-in-Set.ensures)

pub returns-in-None-ended_by-clause-responds : goal.returns-in-None-ended_by-clause-responds
returns-in-None-ended_by-clause-responds c =
    responds_as c.args.known.now _ _ _ _ _
    (set-line_is c.args.known.now c.args.number c.requires.low c.requires.high None (λ x. c.in-None-ended_by.ensures x) c.in-Set.ensures c.value-target-in-Set.ensures) c.respond_set.ensures.responds

pub returns-in_default-clause-responds : goal.returns-in_default-clause-responds
returns-in_default-clause-responds c =
    responds_bare c.args.known.now _ _ _ (no_response_lem c.args.known.now c.args.number c.requires.low c.requires.high _ c.line.ensures c.in_default.not-Rule c.in_default.not-Set)
