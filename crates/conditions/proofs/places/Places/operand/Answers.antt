use Rattle.std.proofs.Common.{slice_index_or, pos, sym, ap, ◌∙◌, to_z-of_z, w32, SFits, rules}
use Rattle.std.proofs.lemmas.List.{get_or_default}
use Rattle.operators.specs.Operands.{given}
use Rattle.conditions.specs.declared.class.Class.TheVariants as d
use Rattle.conditions.specs.Meaning.{line_at}
use Rattle.conditions.specs.Results.{outcome_of}
use Rattle.conditions.proofs.Results.{value_is, value-small}
use Rattle.conditions.proofs.places.Places.operand.Goals as goal

pub returns-in-Reading : goal.returns-in-Reading
returns-in-Reading c n h u r =
    c.reading.ensures ∙ sym (value_is c.args.self.now c.args.readings.now n c.args.place h (search rules) (sym c.in-Reading.is ∙ c.line.ensures ∙ ap (line_at c.args.self.now.lines.items) c.from-index.ensures))

pub returns-in-Text : goal.returns-in-Text
returns-in-Text c n h u r = sym (value_is c.args.self.now c.args.readings.now n c.args.place h (search rules) (sym c.in-Text.is ∙ c.line.ensures ∙ ap (line_at c.args.self.now.lines.items) c.from-index.ensures))

pub returns-in_default : goal.returns-in_default
returns-in_default c n h u r =
    let cs = c.args.classes.now in
    let ns = c.args.numbers.now in
    let f : SFits w32 (slice_index_or ns c.from-index.result (pos 0)) = search rules in
    c.operand.ensures
    ∙ ap given (c.join.ensures ∙ ap (outcome_of (slice_index_or cs c.from-index.result d.Missing)) (to_z-of_z f) ∙ ap (λ j. outcome_of (slice_index_or cs j d.Missing) (slice_index_or ns j (pos 0))) c.from-index.ensures
    ∙ ap (λ x. outcome_of x (slice_index_or ns c.args.place (pos 0))) (get_or_default cs c.args.place d.Missing d.Error c.requires.classes) ∙ r c.args.place)
    ∙ value-small c.args.self.now c.args.readings.now n c.args.place h (search rules) (c.line.ensures ∙ ap (line_at c.args.self.now.lines.items) c.from-index.ensures) c.in_default.not-Reading c.in_default.not-Text
