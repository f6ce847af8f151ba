-- That a decision as a running state is never state 4.
use Rattle.std.specs.Prelude.{◌≡◌}
use Rattle.std.proofs.Common.{arith}
use Rattle.combining.specs.declared.decision.Decision.{Decision}
use Rattle.combining.specs.declared.decision.Decision.TheVariants.{Permit, Deny, NotApplicable, Indeterminate}
use Rattle.combining.specs.Table.{place}

pub none_is_last : (d : Decision) → place d ≡ 4 → ⊥
none_is_last Permit e = omega (arith, e)
none_is_last Deny e = omega (arith, e)
none_is_last NotApplicable e = omega (arith, e)
none_is_last Indeterminate e = omega (arith, e)
