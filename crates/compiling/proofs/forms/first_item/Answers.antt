use Rattle.conditions.specs.Transitions.{first_in}
use Rattle.compiling.proofs.forms.first_item.Goals as goal

pub returns-clause-state : goal.returns-clause-state
returns-clause-state c rs d o =
    let f = c.tabulate.ensures in
    record { state = first_in c.tabulate.result d; bound = f.first_bound d; only = c.first_states.ensures.holds rs d o; stands = f.first d }
