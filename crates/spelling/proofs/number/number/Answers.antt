use Rattle.std.proofs.Common.{ap, arith, rules}
use Rattle.std.proofs.lemmas.Slice.{first_rest}
use Rattle.std.proofs.lemmas.Bool.Decides.{nat_tests}
use Rattle.spelling.specs.Numbers.{number_of}
use Rattle.spelling.proofs.number.number.Goals as goal

pub returns-in-45 : goal.returns-in-45
returns-in-45 c = let e = ap number_of (first_rest c.args.s.now 0 (search rules)) in grind (arith, nat_tests)
