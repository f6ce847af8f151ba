-- That a policy with greedy sets answers as if all children were visited, with none or some duties omitted.
use Rattle.std.proofs.Common.{Bool, true, false, cond, ◌||◌, ◌++◌, subst}
use Rattle.std.proofs.lemmas.List.Elements.{AllZip-push}
use Rattle.values.specs.declared.value.Value.{Value}
use Rattle.operators.specs.Classes.{is_true, is_false, is_missing}
use Rattle.combining.specs.declared.decision.Decision.{Decision}
use Rattle.combining.specs.declared.decision.Decision.TheVariants.{Permit, Deny, NotApplicable, Indeterminate}
use Rattle.combining.specs.Wording.{wording_of}
use Rattle.combining.specs.Combined.{Response}
use Rattle.combining.specs.Fewer.{Fewer, EachFewer}
use Rattle.combining.specs.Merging.{stays_by}
use Rattle.combining.proofs.Fewer.{omits_refl, omits_append, fewer_refl, fewer_combined}
use Rattle.trees.specs.Expressions.{Map, value_of}
use Rattle.trees.specs.declared.duty.Duty.{Duty}
use Rattle.trees.specs.Duties.{Duties, all_fulfilled, dues_of}
use Rattle.trees.specs.Policies.{Policy, rule, set, Items, one, more, bare, on_target, appended, closed, closed_by, respond, first, rest}
use Rattle.trees.specs.AllVisited.{all_visited, each_all_visited}

-- own duties come after both responses alike
appended-fewer : (m : Map) (ds : Duties) (r s : Response Duty) → Fewer r s → Fewer (appended m ds r) (appended m ds s)
appended-fewer m ds r s h = by (all_fulfilled m ds)
  where
    by : (b : Bool) → Fewer (cond b (record { decision = r.decision; duties = r.duties ++ dues_of m ds }) (bare Indeterminate)) (cond b (record { decision = s.decision; duties = s.duties ++ dues_of m ds }) (bare Indeterminate))
    by true = record { decision = h.decision; duties = omits_append r.duties s.duties (dues_of m ds) (dues_of m ds) h.duties (omits_refl (dues_of m ds)) }
    by false = fewer_refl (bare Indeterminate)

closed-fewer : (m : Map) (p d : Duties) (x : Decision) (r s : Response Duty) → Fewer r s → Fewer (closed m p d x r) (closed m p d x s)
closed-fewer m p d Permit r s h = appended-fewer m p r s h
closed-fewer m p d Deny r s h = appended-fewer m d r s h
closed-fewer m p d NotApplicable r s h = fewer_refl (bare NotApplicable)
closed-fewer m p d Indeterminate r s h = fewer_refl (bare Indeterminate)

-- both are closed for the decision that they share
closed-by_fewer : (m : Map) (p d : Duties) (r s : Response Duty) → Fewer r s → Fewer (closed_by m p d r) (closed_by m p d s)
closed-by_fewer m p d r s h =
    let P : Decision → Type 0 = λ x. Fewer (closed_by m p d r) (closed m p d x s) in
    subst P h.decision (closed-fewer m p d r.decision r s h)

target_fewer : (v : Value) (r s : Response Duty) → Fewer r s → Fewer (on_target v r) (on_target v s)
target_fewer v r s h = by (is_true v)
  where
    off : Response Duty
    off = cond (is_false v || is_missing v) (bare NotApplicable) (bare Indeterminate)

    by : (b : Bool) → Fewer (cond b r off) (cond b s off)
    by true = h
    by false = fewer_refl off

mutual
  unfolding respond all_visited

  pub fewer_all : (m : Map) (p : Policy) → Fewer (respond m p) (respond m (all_visited p))
  fewer_all m (rule e t ds) = fewer_refl (respond m (rule e t ds))
  fewer_all m (set c t is p d) =
      target_fewer (value_of m t) _ _
      (closed-by_fewer m p d _ _
      (fewer_combined (wording_of c.algorithm) (stays_by c.algorithm) c.strategy _ _ _ _ (first_fewer m is) (rest-fewer m is)))

  first_fewer : (m : Map) (is : Items) → Fewer (first m is) (first m (each_all_visited is))
  first_fewer m (one p) = fewer_all m p
  first_fewer m (more is p) = first_fewer m is

  rest-fewer : (m : Map) (is : Items) → EachFewer (rest m is) (rest m (each_all_visited is))
  rest-fewer m (one p) = tt
  rest-fewer m (more is p) = AllZip-push Fewer (rest m is) (rest m (each_all_visited is)) _ _ (rest-fewer m is) (fewer_all m p)
