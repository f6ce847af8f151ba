-- The rows of accepted readings, and the value that a row has for a name.
use Rattle.std.specs.Prelude.{◌≡◌, ℕ, ◌<◌, ◌≤◌, cond, List, [], ◌∷◌, map, drop, Some, None, Option, slice_index_or}
use Rattle.std.specs.Str.{bytes_eq}
use Rattle.values.specs.declared.value.Value.{Value}
use Rattle.values.specs.declared.value.Value.TheVariants.{Missing as missing}
use Rattle.readings.specs.Outcome.{names_in, table_in}
use Rattle.readings.specs.declared.table.Readings.{Readings}
use Rattle.readings.specs.declared.row.Row.{Row}
use Rattle.readings.specs.declared.iter.Rows.{Rows}

-- what a row has for a name: the value at the name's first place, missing where there is none
abbrev pub row_map : List (List ℕ) → List Value → List ℕ → Value
row_map [] vs x = missing
row_map (n ∷ ns) [] x = missing
row_map (n ∷ ns) (v ∷ vs) x = cond (bytes_eq n x) v (row_map ns vs x)

-- the names and the values that a row refers to
abbrev pub row_names : Row → List (List ℕ)
row_names row = row.names.now

abbrev pub row_vals : Row → List Value
row_vals row = row.cells.now

abbrev pub map_in : Row → List ℕ → Value
map_in row = row_map (row_names row) (row_vals row)

-- what the readings have for a name in a row, by its number from 0
abbrev pub map_at : Readings → ℕ → List ℕ → Value
map_at readings index = row_map (names_in readings) (slice_index_or (table_in readings).rows index [])

-- the names and the values of a row
abbrev pub row_seen : Row → List (List ℕ) × List Value
row_seen row = (row_names row, row_vals row)

-- all rows, in order
abbrev pub all_rows : Readings → List (List (List ℕ) × List Value)
all_rows readings = map (λ vs. (names_in readings, vs)) (table_in readings).rows

-- the rows that an iterator has left
abbrev pub rows_left : Rows → List (List (List ℕ) × List Value)
rows_left rows = drop rows.next (all_rows rows.readings.now)

-- a row by its number from 0; none past the last
abbrev pub RowIs : Readings → ℕ → Option Row → Type 0
RowIs readings index None = readings.rows ≤ index
RowIs readings index (Some row) =
    (index < readings.rows) × (row_names row ≡ names_in readings) × (row_vals row ≡ slice_index_or (table_in readings).rows index [])
