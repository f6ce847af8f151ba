use Rattle.std.proofs.Common.{◌+◌, List, vec_items, sym, ap, ◌∙◌, subst, arith, rules}
use Rattle.values.specs.declared.value.Value.{Value}
use Rattle.deciding.proofs.Reading.{ReadTo, other_next, attribute_next}
use Rattle.deciding.proofs.respond.read_lines.Goals as goal
use Rattle.deciding.proofs.respond.read_lines.Goals.{in-Attribute, in_default}

pub loop-place-init : goal.loop-place-init
loop-place-init g c = λ n lo hi. absurd (omega (arith, lo, hi))

pub loop-place-preserved : goal.loop-place-preserved
loop-place-preserved g c =
    let ls = c.args.lines.now in
    let m = g.S.Source.means c.args.source.now in
    let k = c.loop-place.place in
    elim c.match-line.branch [
      | in-Attribute w ↦
          let R : List Value → Type 0 = λ vs. ReadTo (k + 1) ls vs m in
          subst R (sym (ap (λ v. vec_items v) w.readings-is))
          (attribute_next ls (vec_items c.loop-place.readings) m k _ c.index-lines-place.is c.loop-place-test.true c.loop-place.invariant w.in-Attribute.name w.look_up.result
          w.in-Attribute.is (w.look_up.ensures ∙ ap m w.as_bytes.ensures.value) (search rules))
      | in_default w ↦
          let R : List Value → Type 0 = λ vs. ReadTo (k + 1) ls vs m in
          subst R (sym (ap (λ v. vec_items v) w.readings-is))
          (other_next ls (vec_items c.loop-place.readings) m k _ c.index-lines-place.is c.loop-place-test.true c.loop-place.invariant w.in_default.not-Attribute)
    ]

pub returns-clause-reads : goal.returns-clause-reads
returns-clause-reads g c = λ n lo hi. c.loop-place.invariant n lo (omega (arith, hi, c.loop-place-test.false))
