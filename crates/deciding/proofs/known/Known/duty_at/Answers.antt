use Rattle.std.proofs.Common.{◌≡◌, false, sym, ap, ◌∙◌, arith}
use Rattle.std.proofs.lemmas.Grind.{common_steps}
use Rattle.policy.specs.declared.line.Line.TheVariants as l
use Rattle.deciding.specs.Known.{due, line_of, parts}
use Rattle.deciding.proofs.Meaning.{due-is, no_due}
use Rattle.deciding.proofs.known.Known.duty_at.Goals as goal
use Rattle.deciding.proofs.known.Known.duty_at.Goals.{in-Some+in_default-line, in_default}

pub returns-in-Duty : goal.returns-in-Duty
returns-in-Duty c =
    let f : l.Duty c.in-Duty.force c.in-Duty.action c.in-Duty.argument c.in-Duty.field-3 ≡ line_of c.args.self.now c.args.number = grind (arith, common_steps) in
    ap (due c.in-Duty.force c.in-Duty.action) (c.value-argument.ensures ∙ c.value.ensures) ∙ sym (due-is c.args.self.now c.args.number _ f)

pub returns : goal.returns
returns c = elim c.match-get.branch [
  | in-Some+in_default-line w ↦
      let f : w.in-Some.line.now ≡ line_of c.args.self.now c.args.number = grind (arith, common_steps) in
      sym (due-is c.args.self.now c.args.number _ f ∙ no_due (parts c.args.self.now) _ w.in_default-line.not-Duty)
  | in_default w ↦
      let f : l.Truth false ≡ line_of c.args.self.now c.args.number = grind (arith, common_steps) in
      sym (due-is c.args.self.now c.args.number _ f)
]
