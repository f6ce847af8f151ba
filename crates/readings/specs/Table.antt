-- The check of a readings file: its table, or the first fault with its place.
use Rattle.std.specs.Prelude.{ℕ, ◌+◌, Bool, false, cond, ◌||◌, List, [], ◌∷◌, ◌++◌, length, Ok, Err, Result, ◌==◌, nat_lt}
use Rattle.std.specs.Str.{bytes_eq}
use Rattle.values.specs.declared.value.Value.{Value}
use Rattle.spelling.specs.Cells.{cell_of}
use Rattle.spelling.specs.Cuts.{parts}
use Rattle.spelling.specs.Words.{name_of}
use Rattle.refusals.specs.Results.{bind_r, or_refuse}
use Rattle.refusals.specs.Places.{at_field, at_line}
use Rattle.refusals.specs.declared.cause.Cause.{Cause}
use Rattle.refusals.specs.declared.cause.Cause.TheVariants as why
use Rattle.refusals.specs.declared.place.LineFault.{LineFault}
use Rattle.refusals.specs.declared.place.Rejection.{Rejection}

-- names as byte lists, and rows of values in their order
pub record Table : Type 0 where
  pub names : List (List ℕ)
  pub rows : List (List Value)

abbrev pub among : List ℕ → List (List ℕ) → Bool
among x [] = false
among x (y ∷ ys) = bytes_eq y x || among x ys

-- a name that is spelled well and stands nowhere before
abbrev pub fresh_name : List (List ℕ) → List ℕ → Result (List ℕ) Cause
fresh_name before xs =
    bind_r (or_refuse (name_of xs) why.NameMisspelt) (λ x.
    cond (among x before) (Err why.NameRepeated) (Ok x))

-- the names before, and those of the parts from a field on
abbrev pub names_from : ℕ → List (List ℕ) → List (List ℕ) → Result (List (List ℕ)) LineFault
names_from field before [] = Ok before
names_from field before (p ∷ ps) = bind_r (at_field field (fresh_name before p)) (λ x. names_from (field + 1) (before ++ x ∷ []) ps)

-- at most 64 names with a space between
abbrev pub names_of : List ℕ → Result (List (List ℕ)) LineFault
names_of xs =
    cond (nat_lt 64 (length (parts 32 xs))) (Err (record { cause = why.TooManyNames; field = 0 }))
    (names_from 1 [] (parts 32 xs))

-- the values of the parts from a field on
abbrev pub cells_from : ℕ → List (List ℕ) → Result (List Value) LineFault
cells_from field [] = Ok []
cells_from field (p ∷ ps) =
    bind_r (at_field field (or_refuse (cell_of p) why.CellMisspelt)) (λ v.
    bind_r (cells_from (field + 1) ps) (λ vs. Ok (v ∷ vs)))

-- one cell a name, with a space between
abbrev pub row_of : ℕ → List ℕ → Result (List Value) LineFault
row_of width xs =
    cond (length (parts 32 xs) == width) (cells_from 1 (parts 32 xs))
    (Err (record { cause = why.RowShape; field = 0 }))

-- the rows from line n on; the last part follows the last byte 10, so it is empty
abbrev pub rows_of : ℕ → ℕ → List (List ℕ) → Result (List (List Value)) Rejection
rows_of n width [] = Ok []
rows_of n width (q ∷ []) = cond (length q == 0) (Ok []) (Err (record { cause = why.RowShape; line = n; field = 0 }))
rows_of n width (q ∷ r ∷ rs) =
    bind_r (at_line n (row_of width q)) (λ v.
    bind_r (rows_of (n + 1) width (r ∷ rs)) (λ vs. Ok (v ∷ vs)))

-- the first of the lines holds the names, so there are at least two parts
abbrev pub table_from : List (List ℕ) → Result Table Rejection
table_from [] = Err (record { cause = why.NoNames; line = 0; field = 0 })
table_from (p ∷ []) = Err (record { cause = why.NoNames; line = 0; field = 0 })
table_from (p ∷ q ∷ qs) =
    bind_r (at_line 0 (names_of p)) (λ names.
    bind_r (rows_of 1 (length names) (q ∷ qs)) (λ rows. Ok (record { names = names; rows = rows })))

-- the table of a readings file, or why and where it is refused
abbrev pub table_of : List ℕ → Result Table Rejection
table_of xs = table_from (parts 10 xs)
