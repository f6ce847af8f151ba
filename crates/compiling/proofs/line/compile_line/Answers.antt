use Rattle.std.proofs.Common.{[], ◌∷◌, ◌++◌, sym, ap, ◌∙◌, subst, arith, rules}
use Rattle.std.specs.Prelude.{◌&&◌}
use Rattle.policy.specs.declared.line.Family.TheVariants.{Expression as expression, Duty as duty, Item as item, Policy as policy}
use Rattle.policy.specs.Lines.{may_name}
use Rattle.combining.specs.Table.{place}
use Rattle.combining.specs.Wording.{wording_of}
use Rattle.trees.specs.Expressions.{value_of}
use Rattle.trees.specs.Duties.{all_fulfilled, fulfils}
use Rattle.trees.specs.Policies.{respond, decision_for}
use Rattle.trees.specs.Parts.{part_at, as_expression, as_duties, as_items, as_policy, duties_at}
use Rattle.trees.specs.Known.{known_parts, nothing}
use Rattle.conditions.specs.Limited.{limited}
use Rattle.conditions.specs.Meaning.{value_by, names_above}
use Rattle.conditions.specs.Places.{holds, values_in, value_in}
use Rattle.conditions.proofs.Growing.{grows_more}
use Rattle.conditions.proofs.Spreading.{only-as}
use Rattle.compiling.specs.Handed.{algorithm_at}
use Rattle.compiling.specs.Written.{InState, Before, decisions_of}
use Rattle.compiling.proofs.Deciding.{rule_decides, set_decides}
use Rattle.compiling.proofs.Saying.{part_is, names_sound, family_is, other_family, named_says, place_found, chain_found, states_found, earlier_inside, earlier_decisions, given_to, before_says, items_decide, says_back, copy_above, copy_says}
use Rattle.compiling.proofs.Sound.{sound_append}
use Rattle.compiling.proofs.line.compile_line.Goals as goal

pub duty-requires-clause-earlier : goal.duty-requires-clause-earlier
duty-requires-clause-earlier c = let s = names_sound c.args.lines.now c.requires.tree c.args.number c.requires.low c.requires.high (sym c.numbered-line.ensures ∙ c.in-Duty.is) in (chain_found c.args.lines.now c.args.places.now [] c.args.algorithms.now c.args.written.now c.args.number (c.requires.said []) c.in-Duty.earlier s.1 c.chain-earlier.ensures).0

pub duty-requires-clause-argument : goal.duty-requires-clause-argument
duty-requires-clause-argument c = let s = names_sound c.args.lines.now c.requires.tree c.args.number c.requires.low c.requires.high (sym c.numbered-line.ensures ∙ c.in-Duty.is) in (place_found c.args.lines.now c.args.places.now [] c.args.algorithms.now c.args.written.now c.args.number (c.requires.said []) c.in-Duty.argument s.0 c.named.ensures c.place.ensures).0

pub item-requires-clause-child : goal.item-requires-clause-child
item-requires-clause-child c = let s = names_sound c.args.lines.now c.requires.tree c.args.number c.requires.low c.requires.high (sym c.numbered-line.ensures ∙ c.in-Item.is) in (named_says c.args.lines.now c.args.places.now [] c.args.algorithms.now c.args.written.now c.args.number (c.requires.said []) policy c.in-Item.policy s.0).0

pub item-requires-clause-states : goal.item-requires-clause-states
item-requires-clause-states c = let s = names_sound c.args.lines.now c.requires.tree c.args.number c.requires.low c.requires.high (sym c.numbered-line.ensures ∙ c.in-Item.is) in earlier_inside c.args.lines.now c.args.places.now [] c.args.algorithms.now c.args.written.now c.args.number (c.requires.said []) c.in-Item.earlier s.1

pub rule-requires-clause-target : goal.rule-requires-clause-target
rule-requires-clause-target c = let s = names_sound c.args.lines.now c.requires.tree c.args.number c.requires.low c.requires.high (sym c.numbered-line.ensures ∙ c.in-Rule.is) in (place_found c.args.lines.now c.args.places.now [] c.args.algorithms.now c.args.written.now c.args.number (c.requires.said []) c.in-Rule.target s.0 c.named-in-Rule.ensures c.place-target.ensures).0

pub rule-requires-clause-fulfilled : goal.rule-requires-clause-fulfilled
rule-requires-clause-fulfilled c = let s = names_sound c.args.lines.now c.requires.tree c.args.number c.requires.low c.requires.high (sym c.numbered-line.ensures ∙ c.in-Rule.is) in (chain_found c.args.lines.now c.args.places.now [] c.args.algorithms.now c.args.written.now c.args.number (c.requires.said []) c.in-Rule.last s.1 c.chain.ensures).0

pub set-requires-clause-states : goal.set-requires-clause-states
set-requires-clause-states c = let s = names_sound c.args.lines.now c.requires.tree c.args.number c.requires.low c.requires.high (sym c.numbered-line.ensures ∙ c.in-Set.is) in (states_found c.args.lines.now c.args.places.now [] c.args.algorithms.now c.args.written.now c.args.number (c.requires.said []) c.in-Set.items s.1.0 c.named-in-Set.ensures c.states-states.ensures).0

pub set-requires-clause-target : goal.set-requires-clause-target
set-requires-clause-target c = let s = names_sound c.args.lines.now c.requires.tree c.args.number c.requires.low c.requires.high (sym c.numbered-line.ensures ∙ c.in-Set.is) in (place_found c.args.lines.now c.args.places.now [] c.args.algorithms.now c.args.written.now c.args.number (c.requires.said []) c.in-Set.target s.0 c.named-in-Set-2.ensures c.place-target-in-Set.ensures).0

pub set-requires-clause-permits : goal.set-requires-clause-permits
set-requires-clause-permits c =
    let s = names_sound c.args.lines.now c.requires.tree c.args.number c.requires.low c.requires.high (sym c.numbered-line.ensures ∙ c.in-Set.is) in
    (chain_found c.args.lines.now c.args.places.now [] c.args.algorithms.now c.args.written.now c.args.number (c.requires.said []) c.in-Set.on_permit (sound_append c.args.lines.now c.args.number (may_name duty c.in-Set.on_permit) (may_name duty c.in-Set.on_deny) s.1.1).0 c.chain-on_permit.ensures).0

pub set-requires-clause-denies : goal.set-requires-clause-denies
set-requires-clause-denies c =
    let s = names_sound c.args.lines.now c.requires.tree c.args.number c.requires.low c.requires.high (sym c.numbered-line.ensures ∙ c.in-Set.is) in
    (chain_found c.args.lines.now c.args.places.now [] c.args.algorithms.now c.args.written.now c.args.number (c.requires.said []) c.in-Set.on_deny (sound_append c.args.lines.now c.args.number (may_name duty c.in-Set.on_permit) (may_name duty c.in-Set.on_deny) s.1.1).1 c.chain-on_deny.ensures).0

pub add-requires : goal.add-requires
add-requires c =
    let ls = c.args.lines.now in
    let s = names_sound ls c.requires.tree c.args.number c.requires.low c.requires.high (sym c.numbered-line.ensures) in
    record { room = search rules; above = ap (names_above c.args.places.now.used) c.copy.ensures ∙ copy_above c.args.lines.now c.args.places.now [] c.args.algorithms.now c.args.written.now c.args.number (c.requires.said []) c.numbered-line.result s }

pub returns-in-Duty-clause-says : goal.returns-in-Duty-clause-says
returns-in-Duty-clause-says c rs =
    let f = sym c.numbered-line.ensures ∙ c.in-Duty.is in
    let s = names_sound c.args.lines.now c.requires.tree c.args.number c.requires.low c.requires.high (sym c.numbered-line.ensures ∙ c.in-Duty.is) in
    let a = chain_found c.args.lines.now c.args.places.now rs c.args.algorithms.now c.args.written.now c.args.number (c.requires.said rs) c.in-Duty.earlier s.1 c.chain-earlier.ensures in
    let b = place_found c.args.lines.now c.args.places.now rs c.args.algorithms.now c.args.written.now c.args.number (c.requires.said rs) c.in-Duty.argument s.0 c.named.ensures c.place.ensures in
    says_back duty (family_is c.args.lines.now c.requires.tree c.args.number c.requires.low c.requires.high f) _ _ _ _ _ (
      c.duty.ensures.within,
      c.duty.ensures.holds rs ∙ ap (λ x. x && fulfils (value_in c.args.places.now rs c.place.result)) a.1 ∙ ap (λ v. all_fulfilled nothing (duties_at (known_parts c.args.lines.now rs) c.in-Duty.earlier) && fulfils v) b.1
          ∙ ap (λ x. all_fulfilled nothing (as_duties x)) (sym (part_is c.args.lines.now c.requires.tree c.args.number c.requires.low c.requires.high f rs)),
    )

pub returns-in-Item-clause-says : goal.returns-in-Item-clause-says
returns-in-Item-clause-says c rs =
    let f = sym c.numbered-line.ensures ∙ c.in-Item.is in
    let s = names_sound c.args.lines.now c.requires.tree c.args.number c.requires.low c.requires.high (sym c.numbered-line.ensures ∙ c.in-Item.is) in
    let o = c.in-Item.earlier in
    let q = ap (algorithm_at c.args.algorithms.now) c.from.ensures in
    let ds = earlier_decisions c.args.lines.now c.args.places.now rs c.args.algorithms.now c.args.written.now c.args.number (c.requires.said rs) o in
    let d = (respond nothing (as_policy (part_at (known_parts c.args.lines.now rs) c.in-Item.policy))).decision in
    let e = sym (items_decide c.args.lines.now c.args.places.now rs c.args.algorithms.now c.args.written.now c.args.number (c.requires.said rs) c.in-Item.policy o) ∙ ap decisions_of (sym (part_is c.args.lines.now c.requires.tree c.args.number c.requires.low c.requires.high f rs)) in
    says_back item (family_is c.args.lines.now c.requires.tree c.args.number c.requires.low c.requires.high f) _ _ _ _ _ (
      c.item.ensures.within,
      subst (λ ds. InState c.item.new.places rs (algorithm_at c.args.algorithms.now c.args.number) c.item.result ds) e
          (subst (λ a. InState c.item.new.places rs a c.item.result (ds ++ d ∷ [])) q (c.item.ensures.state rs ds d (subst (λ a. Before c.args.places.now rs a c.args.written.now o ds) (sym q) (before_says c.args.lines.now c.args.places.now rs c.args.algorithms.now c.args.written.now c.args.number (c.requires.said rs) c.in-Item.policy o f (c.requires.handed c.args.number c.requires.low c.requires.high) s.1)) (named_says c.args.lines.now c.args.places.now rs c.args.algorithms.now c.args.written.now c.args.number (c.requires.said rs) policy c.in-Item.policy s.0).1)),
    )

pub returns-in-Rule-clause-says : goal.returns-in-Rule-clause-says
returns-in-Rule-clause-says c rs =
    let f = sym c.numbered-line.ensures ∙ c.in-Rule.is in
    let s = names_sound c.args.lines.now c.requires.tree c.args.number c.requires.low c.requires.high (sym c.numbered-line.ensures ∙ c.in-Rule.is) in
    let p = c.args.places.now in
    let ps = known_parts c.args.lines.now rs in
    let e = decision_for c.in-Rule.effect in
    let a = chain_found c.args.lines.now c.args.places.now rs c.args.algorithms.now c.args.written.now c.args.number (c.requires.said rs) c.in-Rule.last s.1 c.chain.ensures in
    let b = place_found c.args.lines.now c.args.places.now rs c.args.algorithms.now c.args.written.now c.args.number (c.requires.said rs) c.in-Rule.target s.0 c.named-in-Rule.ensures c.place-target.ensures in
    says_back policy (family_is c.args.lines.now c.requires.tree c.args.number c.requires.low c.requires.high f) _ _ _ _ _ (
      c.rule.ensures.within,
      only-as c.rule.new.places rs c.rule.result
          (ap place (ap (λ v. limited v (holds p rs c.chain.result) (holds p rs c.chain.result) e) b.1
          ∙ ap (λ x. limited (value_of nothing (as_expression (part_at ps c.in-Rule.target))) x x e) a.1
          ∙ sym (rule_decides nothing c.in-Rule.effect (as_expression (part_at ps c.in-Rule.target)) (duties_at ps c.in-Rule.last))
          ∙ ap (λ x. (respond nothing (as_policy x)).decision) (sym (part_is c.args.lines.now c.requires.tree c.args.number c.requires.low c.requires.high f rs))))
          (c.rule.ensures.decides rs),
    )

pub returns-in-Set-clause-says : goal.returns-in-Set-clause-says
returns-in-Set-clause-says c rs =
    let f = sym c.numbered-line.ensures ∙ c.in-Set.is in
    let s = names_sound c.args.lines.now c.requires.tree c.args.number c.requires.low c.requires.high (sym c.numbered-line.ensures ∙ c.in-Set.is) in
    let p = c.args.places.now in
    let ps = known_parts c.args.lines.now rs in
    let k = sound_append c.args.lines.now c.args.number (may_name duty c.in-Set.on_permit) (may_name duty c.in-Set.on_deny) s.1.1 in
    let a = chain_found c.args.lines.now c.args.places.now rs c.args.algorithms.now c.args.written.now c.args.number (c.requires.said rs) c.in-Set.on_permit k.0 c.chain-on_permit.ensures in
    let b = chain_found c.args.lines.now c.args.places.now rs c.args.algorithms.now c.args.written.now c.args.number (c.requires.said rs) c.in-Set.on_deny k.1 c.chain-on_deny.ensures in
    let v = place_found c.args.lines.now c.args.places.now rs c.args.algorithms.now c.args.written.now c.args.number (c.requires.said rs) c.in-Set.target s.0 c.named-in-Set-2.ensures c.place-target-in-Set.ensures in
    let i = states_found c.args.lines.now c.args.places.now rs c.args.algorithms.now c.args.written.now c.args.number (c.requires.said rs) c.in-Set.items s.1.0 c.named-in-Set.ensures c.states-states.ensures in
    let ds = decisions_of (part_at ps c.in-Set.items) in
    let g = subst (λ a. InState p rs a c.states-states.result ds) (given_to c.args.lines.now c.args.places.now rs c.args.algorithms.now c.args.written.now c.args.number (c.requires.said rs) f (c.requires.handed c.args.number c.requires.low c.requires.high)) i.1 in
    let x = (wording_of c.in-Set.combining.algorithm).decision ds in
    let t = as_expression (part_at ps c.in-Set.target) in
    says_back policy (family_is c.args.lines.now c.requires.tree c.args.number c.requires.low c.requires.high f) _ _ _ _ _ (
      c.set.ensures.within,
      only-as c.set.new.places rs c.set.result
          (ap place (ap (λ v. limited v (holds p rs c.chain-on_permit.result) (holds p rs c.chain-on_deny.result) x) v.1
          ∙ ap (λ y. limited (value_of nothing t) y (holds p rs c.chain-on_deny.result) x) a.1
          ∙ ap (λ y. limited (value_of nothing t) (all_fulfilled nothing (duties_at ps c.in-Set.on_permit)) y x) b.1
          ∙ sym (set_decides nothing c.in-Set.combining t (as_items (part_at ps c.in-Set.items)) (duties_at ps c.in-Set.on_permit) (duties_at ps c.in-Set.on_deny))
          ∙ ap (λ y. (respond nothing (as_policy y)).decision) (sym (part_is c.args.lines.now c.requires.tree c.args.number c.requires.low c.requires.high f rs))))
          (c.set.ensures.decides rs ds g),
    )

pub returns-in_default : goal.returns-in_default
returns-in_default c =
    let ls = c.args.lines.now in
    let f = sym c.numbered-line.ensures in
    let x = c.numbered-line.result in
    let s = names_sound ls c.requires.tree c.args.number c.requires.low c.requires.high f in
    let e = other_family x c.in_default.not-Duty c.in_default.not-Item c.in_default.not-Rule c.in_default.not-Set in
    record {
      grows = grows_more c.add.ensures.grows (omega arith);
      expression = λ h. c.add.ensures.grows;
      says = λ rs.
          says_back expression (family_is ls c.requires.tree c.args.number c.requires.low c.requires.high f ∙ e) _ _ _ _ _ (
            c.add.ensures.within,
            c.add.ensures.value rs ∙ ap (value_by rs (values_in c.args.places.now rs)) c.copy.ensures ∙ copy_says c.args.lines.now c.args.places.now rs c.args.algorithms.now c.args.written.now c.args.number (c.requires.said rs) x s e
                ∙ ap (λ y. value_of nothing (as_expression y)) (sym (part_is ls c.requires.tree c.args.number c.requires.low c.requires.high f rs)),
          );
    }
