use Rattle.std.proofs.Common.{rules}
use Rattle.std.proofs.lemmas.List.{take_rest}
use Rattle.spelling.proofs.Cuts.{cut_at, cut_found}
use Rattle.spelling.proofs.cut.cut.Goals as goal

pub returns-in_err-i : goal.returns-in_err-i
returns-in_err-i c = rw (cut_at c.args.b c.args.s.now) (search rules)

pub returns : goal.returns
returns c = cut_found c.args.b c.args.s.now c.in_ok-i.i _ _ (search rules) (search rules) (search (rules, take_rest))
