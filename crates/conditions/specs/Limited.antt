-- What a policy makes of a decision that is its effect or its children's.
use Rattle.std.specs.Prelude.{Bool, cond, ◌||◌}
use Rattle.values.specs.declared.value.Value.{Value}
use Rattle.operators.specs.Classes.{is_true, is_false, is_missing}
use Rattle.combining.specs.declared.decision.Decision.{Decision}
use Rattle.combining.specs.declared.decision.Decision.TheVariants.{Permit, Deny, NotApplicable, Indeterminate}

-- a permit or a deny needs its duties fulfilled
abbrev pub owing : Bool → Bool → Decision → Decision
owing onPermit onDeny Permit = cond onPermit Permit Indeterminate
owing onPermit onDeny Deny = cond onDeny Deny Indeterminate
owing onPermit onDeny NotApplicable = NotApplicable
owing onPermit onDeny Indeterminate = Indeterminate

-- the decision under a target with the value v, where the duties on permit and on deny are fulfilled or not
abbrev pub limited : Value → Bool → Bool → Decision → Decision
limited v onPermit onDeny d = cond (is_true v) (owing onPermit onDeny d) (cond (is_false v || is_missing v) NotApplicable Indeterminate)
