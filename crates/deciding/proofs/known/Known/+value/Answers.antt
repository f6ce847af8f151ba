use Rattle.std.proofs.Common.{sym, ap, ◌∙◌, to_z-of_z, w32, SFits, rules}
use Rattle.values.specs.declared.value.Value.TheVariants.{Number as number}
use Rattle.operators.specs.Operands.{seen}
use Rattle.operators.specs.Operators.{not_of}
use Rattle.trees.specs.Expressions.{applied}
use Rattle.deciding.specs.Known.{value_at}
use Rattle.deciding.proofs.Meaning.{value_is, no_value}
use Rattle.deciding.proofs.known.Known.+value.Goals as goal

pub returns-in-Truth : goal.returns-in-Truth
returns-in-Truth t c = sym (value_is c.args.self.now c.args.number c.requires.low c.requires.high _ (sym c.in-Truth.is ∙ c.line_ref.ensures))

pub returns-in-Attribute : goal.returns-in-Attribute
returns-in-Attribute t c = c.reading.ensures ∙ sym (value_is c.args.self.now c.args.number c.requires.low c.requires.high _ (sym c.in-Attribute.is ∙ c.line_ref.ensures))

pub returns-in-Number : goal.returns-in-Number
returns-in-Number t c =
    let f : SFits w32 c.in-Number.x = search rules in
    ap number (to_z-of_z f) ∙ sym (value_is c.args.self.now c.args.number c.requires.low c.requires.high _ (sym c.in-Number.is ∙ c.line_ref.ensures))

pub returns-in-Text : goal.returns-in-Text
returns-in-Text t c = sym (value_is c.args.self.now c.args.number c.requires.low c.requires.high _ (sym c.in-Text.is ∙ c.line_ref.ensures))

pub returns-in-Not : goal.returns-in-Not
returns-in-Not t c =
    c.operand.ensures ∙ c.not.ensures ∙ ap not_of c.value.ensures ∙ sym (value_is c.args.self.now c.args.number c.requires.low c.requires.high _ (sym c.in-Not.is ∙ c.line_ref.ensures))

pub returns-in-Binary : goal.returns-in-Binary
returns-in-Binary t c =
    c.operand-in-Binary.ensures ∙ c.apply.ensures ∙ ap (λ v. applied c.in-Binary.operator v (seen c.value-right.result)) c.value-left.ensures ∙ ap (applied c.in-Binary.operator (value_at c.args.self.now c.in-Binary.left)) c.value-right.ensures
    ∙ sym (value_is c.args.self.now c.args.number c.requires.low c.requires.high _ (sym c.in-Binary.is ∙ c.line_ref.ensures))

pub returns-in_default : goal.returns-in_default
returns-in_default t c =
    sym (no_value c.args.self.now c.args.number c.requires.low c.requires.high _ c.line_ref.ensures
    c.in_default.not-Truth c.in_default.not-Attribute c.in_default.not-Number c.in_default.not-Text c.in_default.not-Not c.in_default.not-Binary)
