use Rattle.enforcement.proofs.Counts.{asked-sum, asked-count, asked-lent}
use Rattle.enforcement.proofs.enforcing.enforce.Goals as goal

pub returns-clause-sum : goal.returns-clause-sum
returns-clause-sum g c =
    let e = c.try_duties-tally.ensures in
    rw e.2 (asked-sum e.1)

pub returns-clause-counted : goal.returns-clause-counted
returns-clause-counted g c =
    let e = c.try_duties-tally.ensures in
    rw e.2 (asked-count e.1)

pub returns-clause-same_memory : goal.returns-clause-same_memory
returns-clause-same_memory g c = asked-lent c.try_duties-tally.ensures.1
