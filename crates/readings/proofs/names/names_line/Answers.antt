use Rattle.std.proofs.Common.{◌≡◌, false, ltb, length, ap, ◌∙◌, arith, rules}
use Rattle.std.proofs.lemmas.Bool.Decides.{nat_tests}
use Rattle.spelling.specs.Cuts.{parts}
use Rattle.readings.specs.Table.{names_from}
use Rattle.readings.proofs.Parts.{names-read}
use Rattle.readings.proofs.names.names_line.Goals as goal

pub returns-clause-value : goal.returns-clause-value
returns-clause-value c =
    let ps = parts 32 c.args.line.now in
    let few : ltb 64 (length ps) ≡ false = grind (arith, nat_tests) in
    rw few (names-read _ (λ part seen x k. search rules) ps c.args.names.now.items c.read_parts.result c.read_parts.new.items.items c.read_parts.ensures.value ∙ ap (λ xs. names_from 1 xs ps) c.requires.empty)
