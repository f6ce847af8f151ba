use Rattle.conditions.specs.Transitions.{next_in}
use Rattle.compiling.proofs.forms.next_item.Goals as goal

pub returns-clause-state : goal.returns-clause-state
returns-clause-state c rs ds d i o =
    let f = c.tabulate.ensures in
    record {
      state = next_in c.tabulate.result i.state d;
      bound = f.next_bound i.state d;
      only = c.next_states.ensures.holds rs i.state d i.bound i.only o;
      stands = f.next i.state d ds i.bound i.stands;
    }
