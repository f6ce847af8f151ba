-- What the policy of a line decides, by its target, its duties, and its effect or its items.
use Rattle.std.proofs.Common.{◌≡◌, Bool, true, false, [], ◌∷◌, ◌++◌, map, refl, ap, ◌∙◌}
use Rattle.std.specs.Prelude.{cond, ◌||◌}
use Rattle.std.proofs.lemmas.List.{map-append}
use Rattle.values.specs.declared.value.Value.{Value}
use Rattle.spelling.specs.declared.algorithm.Combining.{Combining}
use Rattle.policy.specs.declared.line.Effect.{Effect}
use Rattle.policy.specs.declared.line.Effect.TheVariants as effect
use Rattle.operators.specs.Classes.{is_true, is_false, is_missing}
use Rattle.combining.specs.declared.decision.Decision.{Decision}
use Rattle.combining.specs.declared.decision.Decision.TheVariants.{Permit, Deny, NotApplicable, Indeterminate}
use Rattle.combining.specs.Combined.{Response, decision_of}
use Rattle.combining.specs.Wording.{wording_of}
use Rattle.combining.specs.Merging.{stays_by}
use Rattle.combining.proofs.Fewer.{combined-decision}
use Rattle.trees.specs.Expressions.{Expression, Map, value_of}
use Rattle.trees.specs.declared.duty.Duty.{Duty}
use Rattle.trees.specs.Duties.{Duties, all_fulfilled}
use Rattle.trees.specs.Policies.{Policy, rule, set, Items, one, more, decision_for, bare, on_target, appended, closed, combined_by, respond, first, rest}
use Rattle.conditions.specs.Limited.{owing, limited}

cond-decision : (b : Bool) (r s : Response Duty) → (cond b r s).decision ≡ cond b r.decision s.decision
cond-decision true r s = refl
cond-decision false r s = refl

-- a target
target_decides : (v : Value) (r : Response Duty) → (on_target v r).decision ≡ cond (is_true v) r.decision (cond (is_false v || is_missing v) NotApplicable Indeterminate)
target_decides v r = cond-decision (is_true v) r _ ∙ ap (cond (is_true v) r.decision) (cond-decision (is_false v || is_missing v) (bare NotApplicable) (bare Indeterminate))

module _ (m : Map) where
  appended_decides : (ds : Duties) (r : Response Duty) → (appended m ds r).decision ≡ cond (all_fulfilled m ds) r.decision Indeterminate
  appended_decides ds r = cond-decision (all_fulfilled m ds) _ (bare Indeterminate)

  -- a set's own duties
  closed_decides : (p d : Duties) (x : Decision) (r : Response Duty) → r.decision ≡ x → (closed m p d x r).decision ≡ owing (all_fulfilled m p) (all_fulfilled m d) x
  closed_decides p d Permit r e = appended_decides p r ∙ ap (λ x. cond (all_fulfilled m p) x Indeterminate) e
  closed_decides p d Deny r e = appended_decides d r ∙ ap (λ x. cond (all_fulfilled m d) x Indeterminate) e
  closed_decides p d NotApplicable r e = refl
  closed_decides p d Indeterminate r e = refl

  effect_decides : (e : Effect) (ds : Duties) → (appended m ds (bare (decision_for e))).decision ≡ owing (all_fulfilled m ds) (all_fulfilled m ds) (decision_for e)
  effect_decides effect.Permit ds = appended_decides ds (bare Permit)
  effect_decides effect.Deny ds = appended_decides ds (bare Deny)

  pub rule_decides : (e : Effect) (t : Expression) (ds : Duties) → (respond m (rule e t ds)).decision ≡ limited (value_of m t) (all_fulfilled m ds) (all_fulfilled m ds) (decision_for e)
  unfolding respond
  rule_decides e t ds =
      target_decides (value_of m t) _ ∙ ap (λ x. cond (is_true (value_of m t)) x (cond (is_false (value_of m t) || is_missing (value_of m t)) NotApplicable Indeterminate)) (effect_decides e ds)

  pub set_decides : (c : Combining) (t : Expression) (is : Items) (p d : Duties)
      → (respond m (set c t is p d)).decision ≡ limited (value_of m t) (all_fulfilled m p) (all_fulfilled m d) ((wording_of c.algorithm).decision (map decision_of (first m is ∷ rest m is)))
  unfolding respond
  set_decides c t is p d =
      let r : Response Duty = combined_by c (first m is) (rest m is) in
      let v : Value = value_of m t in
      target_decides v _ ∙ ap (λ x. cond (is_true v) x (cond (is_false v || is_missing v) NotApplicable Indeterminate)) (closed_decides p d r.decision r refl)
      ∙ ap (limited v (all_fulfilled m p) (all_fulfilled m d)) (combined-decision (wording_of c.algorithm) (stays_by c.algorithm) c.strategy (first m is) (rest m is))

  -- the decisions of one item, and those with one item more
  pub one_decides : (p : Policy) → map decision_of (first m (one p) ∷ rest m (one p)) ≡ (respond m p).decision ∷ []
  unfolding respond
  one_decides p = refl

  pub more_decide : (is : Items) (p : Policy) → map decision_of (first m (more is p) ∷ rest m (more is p)) ≡ map decision_of (first m is ∷ rest m is) ++ (respond m p).decision ∷ []
  unfolding respond
  more_decide is p = ap (λ ds. decision_of (first m is) ∷ ds) (map-append decision_of (rest m is) (respond m p ∷ []))
