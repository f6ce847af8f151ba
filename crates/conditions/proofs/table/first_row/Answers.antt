use Rattle.combining.specs.declared.decision.Decision.TheVariants.{Permit, Deny, NotApplicable, Indeterminate}
use Rattle.conditions.proofs.table.first_row.Goals as goal

pub returns-clause-reached : goal.returns-clause-reached
returns-clause-reached g c Permit = c.first_state.ensures.reached
returns-clause-reached g c Deny = c.first_state-2.ensures.reached
returns-clause-reached g c NotApplicable = c.first_state-3.ensures.reached
returns-clause-reached g c Indeterminate = c.first_state-4.ensures.reached
