use Rattle.std.proofs.Common.{rules}
use Rattle.std.proofs.lemmas.List.{length-map}
use Rattle.readings.proofs.Rows.{table_cut}
use Rattle.readings.proofs.table.Readings.read.Goals as goal

pub returns-in_err-line-clause-value : goal.returns-in_err-line-clause-value
returns-in_err-line-clause-value c = rw (table_cut c.args.file.now) (search rules)

pub returns-in_err-at_line-clause-value : goal.returns-in_err-at_line-clause-value
returns-in_err-at_line-clause-value c = rw (table_cut c.args.file.now) (search rules)

pub returns-in_err-self-clause-value : goal.returns-in_err-self-clause-value
returns-in_err-self-clause-value c = rw (table_cut c.args.file.now) (search (rules, length-map))

pub returns-clause-value : goal.returns-clause-value
returns-clause-value c = rw (table_cut c.args.file.now) (search (rules, length-map))
