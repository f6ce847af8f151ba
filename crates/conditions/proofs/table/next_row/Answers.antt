use Rattle.combining.specs.declared.decision.Decision.TheVariants.{Permit, Deny, NotApplicable, Indeterminate}
use Rattle.conditions.proofs.table.next_row.Goals as goal

pub returns-clause-bound : goal.returns-clause-bound
returns-clause-bound g c Permit = c.next_state.ensures.bound
returns-clause-bound g c Deny = c.next_state-2.ensures.bound
returns-clause-bound g c NotApplicable = c.next_state-3.ensures.bound
returns-clause-bound g c Indeterminate = c.next_state-4.ensures.bound

pub returns-clause-reached : goal.returns-clause-reached
returns-clause-reached g c s Permit ds = c.next_state.ensures.reached s ds
returns-clause-reached g c s Deny ds = c.next_state-2.ensures.reached s ds
returns-clause-reached g c s NotApplicable ds = c.next_state-3.ensures.reached s ds
returns-clause-reached g c s Indeterminate ds = c.next_state-4.ensures.reached s ds
