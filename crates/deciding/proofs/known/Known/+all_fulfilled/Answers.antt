use Rattle.std.proofs.Common.{◌&&◌, sym, ap, ◌∙◌, rules}
use Rattle.trees.specs.Duties.{all_fulfilled, fulfils}
use Rattle.trees.specs.Known.{nothing}
use Rattle.deciding.specs.Known.{value_at}
use Rattle.deciding.proofs.Meaning.{chain_fulfilled, no_chain}
use Rattle.deciding.proofs.known.Known.+all_fulfilled.Goals as goal

pub returns-then-all_fulfilled : goal.returns-then-all_fulfilled
returns-then-all_fulfilled t c =
    c.is_fulfilled.ensures ∙ ap fulfils c.value.ensures
    ∙ sym (chain_fulfilled c.args.self.now c.in-Some.number (search rules) (search rules) c.in-Some.is c.in-Duty.ensures
    ∙ ap (λ b. b && fulfils (value_at c.args.self.now c.in-Duty.argument)) (sym c.all_fulfilled.ensures ∙ c.if-all_fulfilled.true))

pub returns-else-all_fulfilled : goal.returns-else-all_fulfilled
returns-else-all_fulfilled t c =
    c.if-all_fulfilled.false
    ∙ sym (chain_fulfilled c.args.self.now c.in-Some.number (search rules) (search rules) c.in-Some.is c.in-Duty.ensures
    ∙ ap (λ b. b && fulfils (value_at c.args.self.now c.in-Duty.argument)) (sym c.all_fulfilled.ensures ∙ c.if-all_fulfilled.false))

pub returns-in_default : goal.returns-in_default
returns-in_default t c =
    sym (ap (all_fulfilled nothing) (no_chain c.args.self.now c.in-Some.number (search rules) (search rules) c.in-Some.is _ c.line.ensures c.in_default.not-Duty))
