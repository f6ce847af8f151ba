use Rattle.std.proofs.Common.{◌≡◌, codes, sym, ap, rules}
use Rattle.std.proofs.lemmas.Slice.Eq.{text_from_reads}
use Rattle.spelling.specs.Algorithms.{algorithm_named}
use Rattle.spelling.proofs.algorithm.algorithm_named.Goals as goal

pub returns-in-112 : goal.returns-in-112
returns-in-112 c = let e : c.args.s.now ≡ codes "p-over" = search (rules, text_from_reads) in ap algorithm_named (sym e)

pub returns-in-100 : goal.returns-in-100
returns-in-100 c = let e : c.args.s.now ≡ codes "d-over" = search (rules, text_from_reads) in ap algorithm_named (sym e)

pub returns-in-111 : goal.returns-in-111
returns-in-111 c = let e : c.args.s.now ≡ codes "one-app" = search (rules, text_from_reads) in ap algorithm_named (sym e)

pub returns-in-119 : goal.returns-in-119
returns-in-119 c = let e : c.args.s.now ≡ codes "weak-con" = search (rules, text_from_reads) in ap algorithm_named (sym e)

pub returns-in-102 : goal.returns-in-102
returns-in-102 c = let e : c.args.s.now ≡ codes "first-app" = search (rules, text_from_reads) in ap algorithm_named (sym e)

pub returns-in-100-2 : goal.returns-in-100-2
returns-in-100-2 c = let e : c.args.s.now ≡ codes "d-unless-p" = search (rules, text_from_reads) in ap algorithm_named (sym e)

pub returns-in-112-2 : goal.returns-in-112-2
returns-in-112-2 c = let e : c.args.s.now ≡ codes "p-unless-d" = search (rules, text_from_reads) in ap algorithm_named (sym e)

pub returns-in-115 : goal.returns-in-115
returns-in-115 c = let e : c.args.s.now ≡ codes "strong-con" = search (rules, text_from_reads) in ap algorithm_named (sym e)
