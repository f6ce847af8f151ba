use Rattle.std.proofs.Common.{◌≡◌, true, eqb, length, arith, rules}
use Rattle.std.proofs.lemmas.Bool.Decides.{nat_tests}
use Rattle.spelling.specs.Cuts.{parts}
use Rattle.readings.proofs.Parts.{cells_read}
use Rattle.readings.proofs.cells.row_line.Goals as goal

pub returns-clause-value : goal.returns-clause-value
returns-clause-value c =
    let ps = parts 32 c.args.line.now in
    let full : eqb (length ps) c.args.width ≡ true = grind (arith, nat_tests) in
    rw full (cells_read _ (λ part seen x k. search rules) ps c.args.cells.now.items c.read_parts.result c.read_parts.new.items.items c.read_parts.ensures.value)
