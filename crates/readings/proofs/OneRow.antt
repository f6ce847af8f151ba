-- Where the cells of one row lie, and the names and cells that are left of it.
use Rattle.std.proofs.Common.{◌≡◌, ℕ, zero, suc, ◌+◌, ◌*◌, ◌<◌, ◌≤◌, min, Bool, true, false, cond, List, [], ◌∷◌, map, length, get_or, take, drop, Some, Option, Bor, sym, refl, ap, ◌∙◌, inl, inr, suc-mul, zero-mul, arith}
use Rattle.std.proofs.lemmas.List.{drop_all, drop-drop}
use Rattle.std.proofs.lemmas.Bool.{cases_lt}
use Rattle.std.specs.List.{find, zip}
use Rattle.std.specs.Option.{option_map, option_map_or}
use Rattle.std.specs.Str.{bytes_eq}
use Rattle.values.specs.declared.value.Value.{Value}
use Rattle.values.specs.declared.value.Value.TheVariants.{Missing as missing}
use Rattle.values.specs.Short.{Name}
use Rattle.readings.specs.Outcome.{rows_in, names_in}
use Rattle.readings.specs.Rows.{row_map, row_vals, map_in, map_at, RowIs}
use Rattle.readings.specs.declared.row.Row.{Row}
use Rattle.readings.specs.declared.table.Readings.{Readings}

-- a row lies past those before it
pub row_at : (width n : ℕ) (vs : List Value) (i : ℕ) → i < n → get_or (rows_in width n vs) i [] ≡ take width (drop (i * width) vs)
row_at width zero vs i h = absurd (omega arith)
row_at width (suc n) vs zero h = rw zero-mul
row_at width (suc n) vs (suc i) h =
    let e : width + i * width ≡ suc i * width = let m = suc-mul i width in omega (arith, m) in
    row_at width n (drop width vs) i (omega arith) ∙ ap (take width) (drop-drop (i * width) width vs ∙ ap (λ k. drop k vs) e)

-- a bound past the end changes nothing
pub drop_min : {A : Type 0} (n m : ℕ) (xs : List A) → length xs ≤ m → drop (min n m) xs ≡ drop n xs
drop_min n m xs h = elim (cases_lt n m) [ inl l ↦ (let e : min n m ≡ n = omega arith in rw e) | inr l ↦ drop_all (min n m) xs (omega arith) ∙ sym (drop_all n xs (omega arith)) ]

-- the cells of a row, where a product past all cells may stop at a top
pub row-cells : (width n i top start : ℕ) (cells row : List Value) → i < n → length cells ≤ top → start ≡ min (i * width) top → row ≡ take width (drop start cells)
    → row ≡ get_or (rows_in width n cells) i []
row-cells width n i top start cells row l h s r =
    let e : row ≡ take width (drop (i * width) cells) = r ∙ ap (λ k. take width (drop k cells)) s ∙ ap (take width) (drop_min (i * width) top cells h) in
    e ∙ sym (row_at width n cells i l)

-- things with a name and a value each
module _ {X : Type 0} (name : X → List ℕ) (value : X → Value) where
  abbrev pub has_name : List ℕ → X → Bool
  has_name x y = bytes_eq (name y) x

  -- the value of what was found, missing where nothing was
  abbrev pub value_found : Option X → Value
  value_found o = option_map_or value o missing

  first_or_later : (y : X) (o : Option X) (b : Bool) → value_found (cond b (Some y) o) ≡ cond b (value y) (value_found o)
  first_or_later y o true = refl
  first_or_later y o false = refl

  -- the first that has the name tells what a row of their names and values has for it
  pub first_found : (ys : List X) (x : List ℕ) → value_found (find (has_name x) ys) ≡ row_map (map name ys) (map value ys) x
  first_found [] x = refl
  first_found (y ∷ ys) x = first_or_later y (find (has_name x) ys) (bytes_eq (name y) x) ∙ ap (cond (bytes_eq (name y) x) (value y)) (first_found ys x)

-- a name beside its value has the name x
abbrev pub is_named : List ℕ → Name × Value → Bool
is_named = has_name (λ p. p.0) (λ p. p.1)

abbrev value_in : Option (Name × Value) → Value
value_in = value_found (λ p. p.0) (λ p. p.1)

-- a row has what its pairs of a name and a value have
row_pairs : (names : List Name) (cells : List Value) (x : List ℕ) → row_map (map (λ p. p.0) (zip names cells)) (map (λ p. p.1) (zip names cells)) x ≡ row_map names cells x
row_pairs [] cells x = refl
row_pairs (n ∷ names) [] x = refl
row_pairs (n ∷ names) (v ∷ cells) x = ap (cond (bytes_eq n x) v) (row_pairs names cells x)

row_found : (names : List Name) (cells : List Value) (x : List ℕ) → value_in (find (is_named x) (zip names cells)) ≡ row_map names cells x
row_found names cells x = first_found (λ p. p.0) (λ p. p.1) (zip names cells) x ∙ row_pairs names cells x

-- what is found is a pair of references
abbrev pub referred : Bor Name × Bor Value → Name × Value
referred p = (p.0.now, p.1.now)

abbrev pub told : Option (Bor Name × Bor Value) → Value
told r = value_in (option_map referred r)

pub told_row : (names : List Name) (cells : List Value) (x : List ℕ) (r : Option (Bor Name × Bor Value)) → option_map referred r ≡ find (is_named x) (zip names cells) → told r ≡ row_map names cells x
told_row names cells x r e = ap value_in e ∙ row_found names cells x

-- what a row has for a name is what the readings have there
pub row-map : (readings : Readings) (index : ℕ) (row : Row) → RowIs readings index (Some row) → (x : List ℕ) → map_in row x ≡ map_at readings index x
row-map readings index row h x = ap (λ ns. row_map ns (row_vals row) x) h.1 ∙ ap (λ vs. row_map (names_in readings) vs x) h.2
