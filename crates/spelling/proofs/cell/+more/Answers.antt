use Rattle.std.proofs.Common.{rules}
use Rattle.spelling.proofs.Cells.{more_cut}
use Rattle.spelling.proofs.cell.+more.Goals as goal

pub returns-in_err-read-in-None : goal.returns-in_err-read-in-None
returns-in_err-read-in-None g t c = rw (more_cut g.T.Member.spelt c.args.s.now c.args.set) (search rules)

pub returns-in_err-read-in-Some : goal.returns-in_err-read-in-Some
returns-in_err-read-in-Some g t c = rw (more_cut g.T.Member.spelt c.args.s.now c.args.set) (search rules)

pub returns-in_err-with-in-Some : goal.returns-in_err-with-in-Some
returns-in_err-with-in-Some g t c = rw (more_cut g.T.Member.spelt c.args.s.now c.args.set) (search rules)

pub returns-in_ok-read-in-None : goal.returns-in_ok-read-in-None
returns-in_ok-read-in-None g t c = rw (more_cut g.T.Member.spelt c.args.s.now c.args.set) (search rules)

pub returns-in_ok-with-in-Some : goal.returns-in_ok-with-in-Some
returns-in_ok-with-in-Some g t c = rw (more_cut g.T.Member.spelt c.args.s.now c.args.set) (search rules)
