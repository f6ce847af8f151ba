use Rattle.std.proofs.Common.{arith, rules}
use Rattle.std.proofs.lemmas.Bool.Decides.{nat_tests}
use Rattle.spelling.proofs.Cells.{letter_first}
use Rattle.spelling.proofs.cell.cell.Goals as goal

pub returns-in-97-to-122 : goal.returns-in-97-to-122
returns-in-97-to-122 c = let e = letter_first c.args.s.now (search rules) (grind (arith, nat_tests)) in search rules
