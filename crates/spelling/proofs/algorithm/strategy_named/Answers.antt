use Rattle.std.proofs.Common.{◌≡◌, codes, sym, ap, rules}
use Rattle.std.proofs.lemmas.Slice.Eq.{text_from_reads}
use Rattle.spelling.specs.Algorithms.{strategy_named}
use Rattle.spelling.proofs.algorithm.strategy_named.Goals as goal

pub returns-in-greedy : goal.returns-in-greedy
returns-in-greedy c = let e : c.args.s.now ≡ codes "greedy" = search (rules, text_from_reads) in ap strategy_named (sym e)
