-- The answer to a readings file.
use Rattle.std.specs.Prelude.{◌≡◌, ℕ, zero, suc, List, [], ◌∷◌, length, take, drop, Ok, Err, vec_items, vec_capacity, Result}
use Rattle.values.specs.declared.value.Value.{Value}
use Rattle.refusals.specs.Limits.{small_of}
use Rattle.refusals.specs.Results.{bind_r}
use Rattle.refusals.specs.declared.place.Rejection.{Rejection}
use Rattle.refusals.specs.declared.refused.Refused.{Refused}
use Rattle.readings.specs.Table.{Table, table_of}
use Rattle.readings.specs.declared.table.Readings.{Readings}
use Rattle.readings.specs.declared.table.TableRoom.{TableRoom}

-- n rows of a width, one after the other
abbrev pub rows_in : ℕ → ℕ → List Value → List (List Value)
rows_in width zero vs = []
rows_in width (suc n) vs = take width vs ∷ rows_in width n (drop width vs)

abbrev pub names_in : Readings → List (List ℕ)
names_in r = vec_items r.names

abbrev pub cells_in : Readings → List Value
cells_in r = vec_items r.cells

-- the table that the readings hold
abbrev pub table_in : Readings → Table
table_in r = record { names = names_in r; rows = rows_in (length (names_in r)) r.rows (cells_in r) }

-- a readings file has at most 32,768 bytes
abbrev pub readings_of : List ℕ → Result Table Rejection
readings_of file = bind_r (small_of file) (λ _. table_of file)

-- how many names and how many cells a memory has places for
abbrev pub places_of : TableRoom → ℕ × ℕ
places_of r = (vec_capacity r.names, vec_capacity r.cells)

abbrev pub places_in : Readings → ℕ × ℕ
places_in r = (vec_capacity r.names, vec_capacity r.cells)

-- an accepted file gives its table, a refused one its fault; the memory keeps its places
abbrev pub Answers : List ℕ → ℕ × ℕ → Result Readings (Refused TableRoom) → Type 0
Answers file places (Ok r) = (readings_of file ≡ Ok (table_in r)) × (places_in r ≡ places)
Answers file places (Err e) = (readings_of file ≡ Err e.rejection) × (places_of e.room ≡ places)

-- the rows that were read, or the fault
abbrev pub as_rows : ℕ → Result ℕ Rejection → List Value → Result (List (List Value)) Rejection
as_rows width (Ok n) vs = Ok (rows_in width n vs)
as_rows width (Err e) vs = Err e

-- the table that was read, or the fault
abbrev pub as_table : Result (Unit {0}) Rejection → Readings → Result Table Rejection
as_table (Ok u) r = Ok (table_in r)
as_table (Err e) r = Err e
