-- One turn of the recursion over the rows.
use Rattle.std.proofs.Common.{◌≡◌, ℕ, zero, suc, ◌+◌, ◌≤◌, Bool, false, cond, eqb, List, [], ◌∷◌, ◌++◌, length, take, drop, Some, None, Ok, Err, Option, Result, sym, refl, ap, ◌∙◌, subst, append_assoc, arith, length-append}
use Rattle.std.proofs.lemmas.List.{take_all, take-append-le, drop-append-le, drop_all}
use Rattle.std.proofs.lemmas.Bool.{eqb-true}
use Rattle.values.specs.declared.value.Value.{Value}
use Rattle.spelling.specs.Cells.{cell_of}
use Rattle.spelling.specs.Cuts.{parts, cut_of}
use Rattle.spelling.proofs.Back.{cut_back}
use Rattle.spelling.proofs.Cuts.{parts_none, parts-some, some-part}
use Rattle.refusals.specs.Results.{bind_r, or_refuse}
use Rattle.refusals.specs.Places.{at_field, at_line}
use Rattle.refusals.specs.declared.cause.Cause.TheVariants as why
use Rattle.refusals.specs.declared.place.LineFault.{LineFault}
use Rattle.refusals.specs.declared.place.Rejection.{Rejection}
use Rattle.readings.specs.Table.{Table, names_of, cells_from, row_of, rows_of, table_from, table_of}
use Rattle.readings.specs.Read.{after, items_as}
use Rattle.readings.specs.Outcome.{rows_in}
use Rattle.readings.proofs.Parts.{parts-short}
use Rattle.refusals.proofs.Inversions.{bind_ok, ok_same, passed}

abbrev Rows : Type 0
Rows = Result (List (List Value)) Rejection

-- rows laid one after the other

-- xs holds n rows of the width and no more
pub Full : ℕ → ℕ → List Value → Type 0
Full width zero xs = length xs ≡ 0
Full width (suc n) xs = (width ≤ length xs) × Full width n (drop width xs)

pub full_none : (width : ℕ) (xs : List Value) → xs ≡ [] → Full width 0 xs
unfolding Full
full_none width xs e = ap length e

full_more : (width n : ℕ) (xs ys : List Value) → Full width n xs → length ys ≡ width → Full width (suc n) (xs ++ ys) × (rows_in width (suc n) (xs ++ ys) ≡ rows_in width n xs ++ ys ∷ [])
unfolding Full
full_more width zero [] ys f l =
    ((omega (arith, l), ap length (drop_all width ys (omega (arith, l)))), ap (λ zs. zs ∷ []) (take_all width ys (omega (arith, l))))
full_more width zero (x ∷ xs) ys f l = absurd (omega arith)
full_more width (suc n) xs ys f l =
    let r = full_more width n (drop width xs) ys f.1 l in
    let d = drop-append-le width xs ys f.0 in
    let t = take-append-le width xs ys f.0 in
    let a = length-append xs ys in (
      (omega (arith, a, f.0), subst (Full width (suc n)) (sym d) r.0),
      (λ i. t i ∷ rows_in width (suc n) (d i)) ∙ ap (λ zs. take width xs ∷ zs) r.1,
    )

-- a row that was read has a value for each name
cells_length : (field : ℕ) (ps : List (List ℕ)) (vs : List Value) → cells_from field ps ≡ Ok vs → length vs ≡ length ps
cells_length field [] vs h = ap length (sym (ok_same h))
cells_length field (p ∷ ps) vs h =
    let a = bind_ok (at_field field (or_refuse (cell_of p) why.CellMisspelt)) _ vs h in
    let b = bind_ok (cells_from (field + 1) ps) _ vs a.1.1 in
    let n = cells_length (field + 1) ps b.0 b.1.0 in
    let e = ap length (ok_same b.1.1) in
    omega (arith, n, e)

row-length : (width : ℕ) (xs : List ℕ) (v : List Value) → row_of width xs ≡ Ok v → length v ≡ width
row-length width xs v h =
    let p = passed (eqb (length (parts 32 xs)) width) (cells_from 1 (parts 32 xs)) _ v h in
    cells_length 1 (parts 32 xs) v p.1 ∙ eqb-true _ _ p.0

-- the rows of a file

one_row : (n width : ℕ) (q : List ℕ) (ps : List (List ℕ)) (r : List ℕ) (rs : List (List ℕ)) → ps ≡ r ∷ rs
    → rows_of n width (q ∷ ps) ≡ bind_r (at_line n (row_of width q)) (λ v. bind_r (rows_of (n + 1) width ps) (λ vs. Ok (v ∷ vs)))
one_row n width q ps r rs e = rw e

after-row : (done : List (List Value)) (o : Result (List Value) Rejection) (r : Rows) → after done (bind_r o (λ v. bind_r r (λ vs. Ok (v ∷ vs)))) ≡ bind_r o (λ v. after (done ++ v ∷ []) r)
after-row done (Ok v) (Ok vs) = ap Ok (sym (append_assoc done (v ∷ []) vs))
after-row done (Ok v) (Err e) = refl
after-row done (Err e) r = refl

unended : (n : ℕ) (t : Bool) → t ≡ false → ◌≡◌ {A = Rows} (cond t (Ok []) (Err (record { cause = why.RowShape; line = n; field = 0 }))) (Err (record { cause = why.RowShape; line = n; field = 0 }))
unended n t h = rw h

-- what the code answered of a row, after the cells before it

row-failed : (n : ℕ) (before : List Value) (o : Result (List Value) LineFault) (r : Result (Unit {0}) LineFault) (e : Rejection) (vs : List Value) → items_as r vs ≡ after before o → Err e ≡ at_line n r → at_line n o ≡ Err e
row-failed n before (Ok v) (Ok u) e vs h g = cc
row-failed n before (Ok v) (Err f) e vs h g = cc
row-failed n before (Err f) (Ok u) e vs h g = cc
row-failed n before (Err f) (Err d) e vs h g =
    let same : f ≡ d = cc in
    let is : record { cause = d.cause; line = n; field = d.field } ≡ e = cc in
    ap Err (ap (λ (x : LineFault). record { cause = x.cause; line = n; field = x.field }) same ∙ is)

row-passed : (n : ℕ) (before : List Value) (o : Result (List Value) LineFault) (r : Result (Unit {0}) LineFault) (u : Unit {0}) (vs : List Value) → items_as r vs ≡ after before o → Ok u ≡ at_line n r
    → (v : List Value) × ((o ≡ Ok v) × (vs ≡ before ++ v))
row-passed n before (Ok v) (Ok u) w vs h g = (v, (refl, ok_same h))
row-passed n before (Ok v) (Err f) w vs h g = cc
row-passed n before (Err f) (Ok u) w vs h g = cc
row-passed n before (Err f) (Err d) w vs h g = cc

-- the rows so far, of n, lie in `cells`
module _ (width n : ℕ) (cells : List Value) (xs : List ℕ) (want : Rows) (inv : after (rows_in width n cells) (rows_of (n + 1) width (parts 10 xs)) ≡ want) where
  -- a row that does not end
  pub no_end : eqb (length xs) 0 ≡ false → cut_of 10 xs ≡ None → Err (record { cause = why.RowShape; line = n + 1; field = 0 }) ≡ want
  no_end some h = sym (ap (λ ps. after (rows_in width n cells) (rows_of (n + 1) width ps)) (parts_none 10 xs h) ∙ ap (after (rows_in width n cells)) (unended (n + 1) (eqb (length xs) 0) some)) ∙ inv

  turned : (p : List ℕ × List ℕ) → cut_of 10 xs ≡ Some p → bind_r (at_line (n + 1) (row_of width p.0)) (λ v. after (rows_in width n cells ++ v ∷ []) (rows_of (n + 1 + 1) width (parts 10 p.1))) ≡ want
  turned p h =
      let s = some-part 10 p.1 in
      sym (after-row (rows_in width n cells) (at_line (n + 1) (row_of width p.0)) (rows_of (n + 1 + 1) width (parts 10 p.1)))
      ∙ ap (after (rows_in width n cells)) (sym (one_row (n + 1) width p.0 (parts 10 p.1) s.0 s.1.0 s.1.1) ∙ ap (rows_of (n + 1) width) (sym (parts-some 10 xs p h))) ∙ inv

  pub stops : (p : List ℕ × List ℕ) → cut_of 10 xs ≡ Some p → (r : Result (Unit {0}) LineFault) (vs : List Value) → items_as r vs ≡ after cells (row_of width p.0) → (e : Rejection) → Err e ≡ at_line (n + 1) r → Err e ≡ want
  stops p h r vs a e g =
      ap (λ o. bind_r o (λ v. after (rows_in width n cells ++ v ∷ []) (rows_of (n + 1 + 1) width (parts 10 p.1)))) (sym (row-failed (n + 1) cells (row_of width p.0) r e vs a g)) ∙ turned p h

  pub goes : Full width n cells → (p : List ℕ × List ℕ) → cut_of 10 xs ≡ Some p → (r : Result (Unit {0}) LineFault) (vs : List Value) → items_as r vs ≡ after cells (row_of width p.0) → (u : Unit {0}) → Ok u ≡ at_line (n + 1) r
      → Full width (n + 1) vs × (after (rows_in width (n + 1) vs) (rows_of (n + 1 + 1) width (parts 10 p.1)) ≡ want)
  goes full p h r vs a u g =
      let s = row-passed (n + 1) cells (row_of width p.0) r u vs a g in
      let m = full_more width n cells s.0 full (row-length width p.0 s.0 s.1.0) in
      let j : suc n ≡ n + 1 = omega arith in (
        subst (λ k. Full width k vs) j (subst (Full width (suc n)) (sym s.1.1) m.0),
        ap (λ k. after (rows_in width k vs) (rows_of (n + 1 + 1) width (parts 10 p.1))) (sym j)
            ∙ ap (λ zs. after (rows_in width (suc n) zs) (rows_of (n + 1 + 1) width (parts 10 p.1))) s.1.1
            ∙ ap (λ ds. after ds (rows_of (n + 1 + 1) width (parts 10 p.1))) m.1
            ∙ ap (λ o. bind_r (at_line (n + 1) o) (λ v. after (rows_in width n cells ++ v ∷ []) (rows_of (n + 1 + 1) width (parts 10 p.1)))) (sym s.1.0) ∙ turned p h,
      )

-- the cells of a line have room where the line has
pub line_room : (xs : List ℕ) (p : List ℕ × List ℕ) → cut_of 10 xs ≡ Some p → length (parts 32 p.0) + length p.1 ≤ length xs
line_room xs p h =
    let e = ap length (cut_back 10 xs p h) in
    let a = length-append p.0 (10 ∷ p.1) in
    let b = parts-short 32 p.0 in
    omega (arith, e, a, b)

-- the table by one cut, as the code goes
abbrev pub table_by : Option (List ℕ × List ℕ) → Result Table Rejection
table_by None = Err (record { cause = why.NoNames; line = 0; field = 0 })
table_by (Some p) =
    bind_r (at_line 0 (names_of p.0)) (λ names.
    bind_r (rows_of 1 (length names) (parts 10 p.1)) (λ rows. Ok (record { names = names; rows = rows })))

two-lines : (p : List ℕ) (ps : List (List ℕ)) (q : List ℕ) (qs : List (List ℕ)) → ps ≡ q ∷ qs
    → table_from (p ∷ ps) ≡ bind_r (at_line 0 (names_of p)) (λ names. bind_r (rows_of 1 (length names) ps) (λ rows. Ok (record { names = names; rows = rows })))
two-lines p ps q qs e = rw e

pub table_cut : (xs : List ℕ) → table_of xs ≡ table_by (cut_of 10 xs)
table_cut xs = at (cut_of 10 xs) refl where
  at : (o : Option (List ℕ × List ℕ)) → cut_of 10 xs ≡ o → table_of xs ≡ table_by o
  at None h = ap table_from (parts_none 10 xs h)
  at (Some p) h = let s = some-part 10 p.1 in ap table_from (parts-some 10 xs p h) ∙ two-lines p.0 (parts 10 p.1) s.0 s.1.0 s.1.1
