use Rattle.std.proofs.Common.{◌≡◌, ◌-◌, ◌*◌, ◌^◌, ◌≤◌, min, length, take, drop, vec_items, ap, ◌∙◌, rules}
use Rattle.readings.specs.Outcome.{names_in}
use Rattle.readings.proofs.OneRow.{row-cells}
use Rattle.readings.proofs.table.Readings.row.Goals as goal

pub returns : goal.returns
returns c =
    let r = c.args.self.now in
    let i = c.args.index in
    let start = c.saturating_mul-start.result in
    let cells = vec_items r.cells in
    let width = length (names_in r) in
    let short : length cells ≤ 2 ^ 64 - 1 = search rules in
    let same : length c.as_slice-names.result.now ≡ width = ap length c.as_slice-names.ensures.value in
    let first : start ≡ min (i * width) (2 ^ 64 - 1) = c.saturating_mul-start.ensures ∙ ap (λ w. min (i * w) (2 ^ 64 - 1)) same in
    let lies : c.part-cells.result.now ≡ take width (drop start cells) = c.part-cells.ensures ∙ ap (λ w. take w (drop start c.as_slice.result.now)) same ∙ ap (λ vs. take width (drop start vs)) c.as_slice.ensures.value in
    (c.if-index-self.false, c.as_slice-names.ensures.value, row-cells width r.rows i (2 ^ 64 - 1) start cells c.part-cells.result.now c.if-index-self.false short first lies)
