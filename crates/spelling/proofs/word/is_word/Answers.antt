use Rattle.std.proofs.Common.{ap, arith, rules}
use Rattle.std.proofs.lemmas.Slice.{first_rest}
use Rattle.std.proofs.lemmas.Bool.Decides.{nat_tests}
use Rattle.spelling.specs.Words.{is_word}
use Rattle.spelling.proofs.word.is_word.Goals as goal

pub returns-then-is_letter : goal.returns-then-is_letter
returns-then-is_letter c = let e = ap (is_word c.args.slash) (first_rest c.args.s.now 0 (search rules)) in grind (arith, nat_tests)
