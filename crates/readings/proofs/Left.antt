-- The rows that are left after one more.
use Rattle.std.proofs.Common.{◌≡◌, ℕ, zero, suc, ◌+◌, ◌<◌, ◌≤◌, List, [], ◌∷◌, map, length, drop, Some, None, Option, refl, ap, ◌∙◌, sym, drop-cons, arith}
use Rattle.std.proofs.lemmas.List.{drop-map, drop_all, length-map}
use Rattle.std.specs.Iterator.{YieldsFirstBy, MakesProgress, item_count}
use Rattle.std.specs.declared.iter.Iterator.{can_next-default}
use Rattle.values.specs.declared.value.Value.{Value}
use Rattle.readings.specs.Outcome.{rows_in, names_in, cells_in, table_in}
use Rattle.readings.specs.Rows.{row_vals, row_seen, all_rows, rows_left, RowIs}
use Rattle.readings.specs.declared.row.Row.{Row}
use Rattle.readings.specs.declared.iter.Rows.{Rows}
use Rattle.readings.specs.declared.table.Readings.{Readings}

length-rows_in : (width n : ℕ) (vs : List Value) → length (rows_in width n vs) ≡ n
length-rows_in width zero vs = refl
length-rows_in width (suc n) vs = ap suc (length-rows_in width n (drop width vs))

how_many : (readings : Readings) → length (table_in readings).rows ≡ readings.rows
how_many readings = length-rows_in (length (names_in readings)) readings.rows (cells_in readings)

abbrev with_names : Readings → List Value → List (List ℕ) × List Value
with_names readings vs = (names_in readings, vs)

pub none_left : (readings : Readings) (n : ℕ) → readings.rows ≤ n → drop n (all_rows readings) ≡ []
none_left readings n h =
    let l = length-map (table_in readings).rows (with_names readings) in
    let k = how_many readings in
    drop_all n (all_rows readings) (omega (arith, l, k, h))

pub one_left : (readings : Readings) (n : ℕ) (row : Row) → RowIs readings n (Some row) → drop n (all_rows readings) ≡ row_seen row ∷ drop (n + 1) (all_rows readings)
one_left readings n row h =
    let rows = (table_in readings).rows in
    let k = how_many readings in
    let f = with_names readings in
    let lo = h.0 in
    let next : suc n ≡ n + 1 = omega arith in
    let left : List (List ℕ) × List Value → List (List (List ℕ) × List Value) = λ x. x ∷ map f (drop (suc n) rows) in
    let seen : List (List ℕ) → List (List ℕ) × List Value = λ ns. (ns, row_vals row) in
    drop-map f n rows ∙ ap (map f) (drop-cons rows n [] (omega (arith, k, lo))) ∙ ap (λ vs. left (f vs)) (sym h.2) ∙ ap (λ ns. left (seen ns)) (sym h.1)
    ∙ ap (λ xs. row_seen row ∷ xs) (sym (drop-map f (suc n) rows) ∙ ap (λ i. drop i (all_rows readings)) next)

pub steps : (s : Rows) (r : Option Row) → RowIs s.readings.now s.next r → s.next < s.readings.now.rows → YieldsFirstBy row_seen rows_left s r (record { readings = s.readings; next = s.next + 1 })
steps s None q h = absurd (omega (arith, q, h))
steps s (Some row) q h = one_left s.readings.now s.next row q

pub goes : (s : Rows) (r : Option Row) → RowIs s.readings.now s.next r → s.next < s.readings.now.rows
    → MakesProgress (can_next-default Rows Row) (item_count rows_left) s r (record { readings = s.readings; next = s.next + 1 })
goes s None q h = absurd (omega (arith, q, h))
goes s (Some row) q h =
    let l = ap length (one_left s.readings.now s.next row q) in
    record { on = λ f. (tt, tt, omega (arith, l)); keeps = tt; rests = λ f. tt }
