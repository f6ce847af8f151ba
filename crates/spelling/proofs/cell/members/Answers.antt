use Rattle.std.proofs.Common.{rules}
use Rattle.spelling.proofs.Cells.{gathered_cut}
use Rattle.spelling.proofs.cell.members.Goals as goal

pub returns-in_err-read-in-None : goal.returns-in_err-read-in-None
returns-in_err-read-in-None g c = rw (gathered_cut g.T.Member.spelt g.T.Member.alone g.T.Member.together c.args.s.now) (search rules)

pub returns-in_err-read-in-Some : goal.returns-in_err-read-in-Some
returns-in_err-read-in-Some g c = rw (gathered_cut g.T.Member.spelt g.T.Member.alone g.T.Member.together c.args.s.now) (search rules)

pub returns-in_err-more-in-Some : goal.returns-in_err-more-in-Some
returns-in_err-more-in-Some g c = rw (gathered_cut g.T.Member.spelt g.T.Member.alone g.T.Member.together c.args.s.now) (search rules)

pub returns-in_ok-read-in-None : goal.returns-in_ok-read-in-None
returns-in_ok-read-in-None g c = rw (gathered_cut g.T.Member.spelt g.T.Member.alone g.T.Member.together c.args.s.now) (search rules)

pub returns-in_ok-more-in-Some : goal.returns-in_ok-more-in-Some
returns-in_ok-more-in-Some g c = rw (gathered_cut g.T.Member.spelt g.T.Member.alone g.T.Member.together c.args.s.now) (search rules)
