-- The enforced decision.
use Rattle.std.specs.Prelude.{Bool, cond, not, ◌&&◌}
use Rattle.combining.specs.declared.decision.Decision.{Decision}
use Rattle.combining.specs.declared.decision.Decision.TheVariants.{Permit, Deny, Indeterminate}
use Rattle.combining.specs.Decisions.{is_permit, is_deny, is_effect}
use Rattle.enforcement.specs.declared.bias.Bias.{Bias}
use Rattle.enforcement.specs.declared.bias.Bias.TheVariants.{Base, DenyBiased, PermitBiased}

-- base makes a permit or deny with a failed must indet and keeps every other decision;
-- deny-biased permits only on a permit without one and denies otherwise; permit-biased is its mirror
abbrev pub settled : Bias → Decision → Bool → Decision
settled Base d must_failed = cond (is_effect d && must_failed) Indeterminate d
settled DenyBiased d must_failed = cond (is_permit d && not must_failed) Permit Deny
settled PermitBiased d must_failed = cond (is_deny d && not must_failed) Deny Permit
