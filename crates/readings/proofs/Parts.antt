-- Parts counted, and parts read one after the other.
use Rattle.std.proofs.Common.{◌≡◌, ℕ, ◌+◌, ◌≤◌, eqb, cond, ◌||◌, List, [], ◌∷◌, ◌++◌, length, Some, Ok, Err, MatchResult, Result, Bor, sym, refl, ap, ◌∙◌, subst, append_assoc, arith}
use Rattle.std.specs.List.{slice_split, onto_first, list_any}
use Rattle.std.specs.Str.{bytes_eq}
use Rattle.std.proofs.lemmas.List.{append-nil}
use Rattle.std.proofs.lemmas.List.Splits.{length-slice_split}
use Rattle.std.proofs.lemmas.List.Sums.{count_by-le-length}
use Rattle.values.specs.declared.value.Value.{Value}
use Rattle.values.specs.Short.{Name}
use Rattle.spelling.specs.Cells.{cell_of}
use Rattle.spelling.specs.Cuts.{parts, cut_of, onto}
use Rattle.spelling.proofs.Cuts.{parts-some}
use Rattle.refusals.specs.Results.{bind_r, or_refuse}
use Rattle.refusals.specs.Places.{at_field}
use Rattle.refusals.specs.declared.cause.Cause.{Cause}
use Rattle.refusals.specs.declared.cause.Cause.TheVariants as why
use Rattle.refusals.specs.declared.place.LineFault.{LineFault}
use Rattle.readings.specs.Table.{among, fresh_name, names_from, cells_from}
use Rattle.readings.specs.Read.{after, items_as, ReadInTurn}

onto_same : (x : ℕ) (ps : List (List ℕ)) → onto x ps ≡ onto_first x ps
onto_same x [] = refl
onto_same x (p ∷ ps) = refl

-- the parts are those that the library's `split` gives
pub parts_split : (b : ℕ) (xs : List ℕ) → parts b xs ≡ slice_split (λ x. eqb x b) xs
parts_split b [] = refl
parts_split b (x ∷ xs) =
    let e = parts_split b xs in
    ap (λ ps. cond (eqb x b) ([] ∷ ps) (onto x ps)) e ∙ ap (λ ps. cond (eqb x b) ([] ∷ slice_split (λ y. eqb y b) xs) ps) (onto_same x (slice_split (λ y. eqb y b) xs))

-- there are no more parts than bytes, but for one
pub parts-short : (b : ℕ) (xs : List ℕ) → length (parts b xs) ≤ length xs + 1
parts-short b xs =
    let e = ap length (parts_split b xs) ∙ length-slice_split (λ x. eqb x b) xs in
    let n = count_by-le-length (λ x. eqb x b) xs in
    omega (arith, e, n)

-- one part less after a cut
pub one_less : (xs : List ℕ) (p : List ℕ × List ℕ) → cut_of 32 xs ≡ Some p → length (parts 32 xs) ≡ length (parts 32 p.1) + 1
one_less xs p h = let e = ap length (parts-some 32 xs p h) in omega (arith, e)

-- a part of xs that was read: refused, or an item before those of the other parts
module _ {A : Type 0} (Reads : Bor (List ℕ) → Bor (List A) → Result A Cause → Type 0) (field : ℕ) (before : List A) (xs : List ℕ) (part : Bor (List ℕ)) (ps : List (List ℕ)) (lies : parts 32 xs ≡ part.now ∷ ps) (seen : Bor (List A)) (sees : seen.now ≡ before) where
  pub part-refused : (x : Result A Cause) → Reads part seen x → (e : LineFault) → Err e ≡ at_field field x → ReadInTurn Reads field before (parts 32 xs) (Err e) before
  part-refused (Ok v) k e h = cc
  part-refused (Err w) k e h =
      let same : e ≡ record { cause = w; field = field } = cc in
      subst (λ zs. ReadInTurn Reads field before zs (Err e) before) (sym lies) (part, seen, Err w, refl, sees, k, (ap Err same, refl))

  pub part-read : (x : Result A Cause) → Reads part seen x → (v : A) → Ok v ≡ at_field field x → (r : Result (Unit {0}) LineFault) (items : List A) → ReadInTurn Reads (field + 1) (before ++ v ∷ []) ps r items → ReadInTurn Reads field before (parts 32 xs) r items
  part-read (Ok w) k v h r items rest =
      let same : v ≡ w = cc in
      subst (λ zs. ReadInTurn Reads field before zs r items) (sym lies) (part, seen, Ok w, refl, sees, k, subst (λ u. ReadInTurn Reads (field + 1) (before ++ u ∷ []) ps r items) same rest)
  part-read (Err e) k v h r items rest = cc

-- what was read in turn is what the parts spell: `want` is that, after the items before
module _ {A : Type 0} (spelled : List A → List ℕ → Result A Cause) (want : ℕ → List A → List (List ℕ) → Result (List A) LineFault)
    (none : (n : ℕ) (ys : List A) → want n ys [] ≡ Ok ys)
    (some : (n : ℕ) (ys : List A) (p : List ℕ) (ps : List (List ℕ)) → want n ys (p ∷ ps) ≡ bind_r (at_field n (spelled ys p)) (λ y. want (n + 1) (ys ++ y ∷ []) ps))
    (Reads : Bor (List ℕ) → Bor (List A) → Result A Cause → Type 0)
    (says : (part : Bor (List ℕ)) (seen : Bor (List A)) (x : Result A Cause) → Reads part seen x → x ≡ spelled seen.now part.now) where
  one_read : (p : List ℕ) (ps : List (List ℕ)) (n : ℕ) (before : List A) (r : Result (Unit {0}) LineFault) (items : List A) (x : Result A Cause) → x ≡ spelled before p
      → ((v : A) → ReadInTurn Reads (n + 1) (before ++ v ∷ []) ps r items → items_as r items ≡ want (n + 1) (before ++ v ∷ []) ps)
      → MatchResult x (λ v. ReadInTurn Reads (n + 1) (before ++ v ∷ []) ps r items) (λ e. (r ≡ Err (record { cause = e; field = n })) × (items ≡ before))
      → items_as r items ≡ want n before (p ∷ ps)
  one_read p ps n before r items (Ok v) s others m =
      others v m
      ∙ ap (λ o. bind_r (at_field n o) (λ y. want (n + 1) (before ++ y ∷ []) ps)) s
      ∙ sym (some n before p ps)
  one_read p ps n before r items (Err e) s others m =
      ap (λ q. items_as q items) m.0
      ∙ ap (λ o. bind_r (at_field n o) (λ y. want (n + 1) (before ++ y ∷ []) ps)) s
      ∙ sym (some n before p ps)

  pub all-read : (ps : List (List ℕ)) (n : ℕ) (before : List A) (r : Result (Unit {0}) LineFault) (items : List A) → ReadInTurn Reads n before ps r items → items_as r items ≡ want n before ps
  all-read [] n before r items h = ap (λ q. items_as q items) h.0 ∙ ap Ok h.1 ∙ sym (none n before)
  all-read (p ∷ ps) n before r items h =
      let s = says h.0 h.1 h.2 h.5 ∙ ap (λ xs. spelled xs h.0.now) h.4 ∙ ap (spelled before) h.3 in
      one_read p ps n before r items h.2 s (λ v k. all-read ps (n + 1) (before ++ v ∷ []) r items k) h.6

after-all : (before : List Value) (o : Result Value LineFault) (r : Result (List Value) LineFault) → after before (bind_r o (λ v. bind_r r (λ vs. Ok (v ∷ vs)))) ≡ bind_r o (λ v. after (before ++ v ∷ []) r)
after-all before (Ok v) (Ok vs) = ap Ok (sym (append_assoc before (v ∷ []) vs))
after-all before (Ok v) (Err e) = refl
after-all before (Err e) r = refl

-- the names, and the cells
pub names-read : (Reads : Bor (List ℕ) → Bor (List Name) → Result Name Cause → Type 0)
    (says : (part : Bor (List ℕ)) (seen : Bor (List Name)) (x : Result Name Cause) → Reads part seen x → x ≡ fresh_name seen.now part.now)
    (ps : List (List ℕ)) (before : List Name) (r : Result (Unit {0}) LineFault) (items : List Name) → ReadInTurn Reads 1 before ps r items → items_as r items ≡ names_from 1 before ps
names-read Reads says ps before = all-read fresh_name names_from (λ n ys. refl) (λ n ys p qs. refl) Reads says ps 1 before

pub cells_read : (Reads : Bor (List ℕ) → Bor (List Value) → Result Value Cause → Type 0)
    (says : (part : Bor (List ℕ)) (seen : Bor (List Value)) (x : Result Value Cause) → Reads part seen x → x ≡ or_refuse (cell_of part.now) why.CellMisspelt)
    (ps : List (List ℕ)) (before : List Value) (r : Result (Unit {0}) LineFault) (items : List Value) → ReadInTurn Reads 1 before ps r items → items_as r items ≡ after before (cells_from 1 ps)
cells_read Reads says ps before =
    all-read (λ _ p. or_refuse (cell_of p) why.CellMisspelt) (λ n ys qs. after ys (cells_from n qs)) (λ n ys. ap Ok (append-nil ys))
    (λ n ys p qs. after-all ys (at_field n (or_refuse (cell_of p) why.CellMisspelt)) (cells_from (n + 1) qs)) Reads says ps 1 before

-- a name among others, as the library's `any` tells it
pub among_any : (s : List ℕ) (names : List Name) → list_any (λ x. bytes_eq x s) names ≡ among s names
among_any s [] = refl
among_any s (x ∷ names) = ap (λ t. bytes_eq x s || t) (among_any s names)

pub after-nil : {A E : Type 0} (r : Result (List A) E) → after [] r ≡ r
after-nil (Ok xs) = refl
after-nil (Err e) = refl
