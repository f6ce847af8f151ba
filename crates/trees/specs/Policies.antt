-- Policies as trees, and the response of one over a map from names to values.
use Rattle.std.specs.Prelude.{cond, ◌||◌, List, [], ◌∷◌, ◌++◌}
use Rattle.values.specs.declared.value.Value.{Value}
use Rattle.spelling.specs.declared.algorithm.Combining.{Combining}
use Rattle.policy.specs.declared.line.Effect.{Effect}
use Rattle.policy.specs.declared.line.Effect.TheVariants as effect
use Rattle.operators.specs.Classes.{is_true, is_false, is_missing}
use Rattle.combining.specs.declared.decision.Decision.{Decision}
use Rattle.combining.specs.declared.decision.Decision.TheVariants.{Permit, Deny, NotApplicable, Indeterminate}
use Rattle.combining.specs.Wording.{wording_of}
use Rattle.combining.specs.Combined.{Response, combined}
use Rattle.trees.specs.Expressions.{Expression, Map, value_of}
use Rattle.trees.specs.declared.duty.Duty.{Duty}
use Rattle.trees.specs.Duties.{Duties, all_fulfilled, dues_of}

-- a rule with its effect, target and duties; a set with its combining, target, items, and duties on permit and on deny
mutual
  pub data Policy : Type 0 where
    rule : Effect → Expression → Duties → Policy
    set : Combining → Expression → Items → Duties → Duties → Policy

  -- one or more policies in order
  pub data Items : Type 0 where
    one : Policy → Items
    more : Items → Policy → Items

abbrev pub decision_for : Effect → Decision
decision_for effect.Permit = Permit
decision_for effect.Deny = Deny

-- a response without duties
abbrev pub bare : Decision → Response Duty
bare d = record { decision = d; duties = [] }

-- r where the target is true; a false or missing target makes the policy not-app, and every other value makes it indet
abbrev pub on_target : Value → Response Duty → Response Duty
on_target v r = cond (is_true v) r (cond (is_false v || is_missing v) (bare NotApplicable) (bare Indeterminate))

-- a policy's own duties come after the others; if one of them is not fulfilled the policy is indet
abbrev pub appended : Map → Duties → Response Duty → Response Duty
appended m ds r = cond (all_fulfilled m ds) (record { decision = r.decision; duties = r.duties ++ dues_of m ds }) (bare Indeterminate)

-- a set that permits or denies appends its duties for that; the other two decisions have no duties
abbrev pub closed : Map → Duties → Duties → Decision → Response Duty → Response Duty
closed m onPermit onDeny Permit r = appended m onPermit r
closed m onPermit onDeny Deny r = appended m onDeny r
closed m onPermit onDeny NotApplicable r = bare NotApplicable
closed m onPermit onDeny Indeterminate r = bare Indeterminate

abbrev pub combined_by : Combining → Response Duty → List (Response Duty) → Response Duty
combined_by c r rs = combined (wording_of c.algorithm) c.strategy r rs

-- what a set makes of its items' responses
abbrev pub closed_by : Map → Duties → Duties → Response Duty → Response Duty
closed_by m onPermit onDeny r = closed m onPermit onDeny r.decision r

unfoldable mutual
  pub respond : Map → Policy → Response Duty
  respond m (rule e t ds) = on_target (value_of m t) (appended m ds (bare (decision_for e)))
  respond m (set c t is p d) = on_target (value_of m t) (closed_by m p d (combined_by c (first m is) (rest m is)))

  -- the first item's response, and those of the others
  pub first : Map → Items → Response Duty
  first m (one p) = respond m p
  first m (more is p) = first m is

  pub rest : Map → Items → List (Response Duty)
  rest m (one p) = []
  rest m (more is p) = rest m is ++ respond m p ∷ []
