use Rattle.std.proofs.Common.{rules}
use Rattle.readings.proofs.Left.{none_left, steps, goes}
use Rattle.readings.proofs.iter.RowsIterator.next.Goals as goal

pub returns-then-self-row_count-clause-steps : goal.returns-then-self-row_count-clause-steps
returns-then-self-row_count-clause-steps c = let none = none_left c.args.self.now.readings.now c.args.self.now.next (search rules) in (none, none)

pub returns-clause-steps : goal.returns-clause-steps
returns-clause-steps c = steps c.args.self.now c.row-row.result c.row-row.ensures (search rules)

pub returns-clause-goes : goal.returns-clause-goes
returns-clause-goes c = goes c.args.self.now c.row-row.result c.row-row.ensures (search rules)
