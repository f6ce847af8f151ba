-- Lines that are written after others, and what stays.
use Rattle.std.proofs.Common.{◌≡◌, ℕ, ◌+◌, ◌<◌, ◌≤◌, true, List, [], ◌∷◌, ◌++◌, length, take, slice_set, vec_items, vec_len, refl, sym, ap, ◌∙◌, add-zero, arith, length-take-le, inl, inr}
use Rattle.std.proofs.lemmas.List.{get_or_append_left, get_or_push, length_push, take_more_set, get_or-set_other, get_or-set_same}
use Rattle.std.proofs.lemmas.Bool.{cases_lt}
use Rattle.values.specs.declared.value.Value.{Value}
use Rattle.values.specs.declared.value.Value.TheVariants.{Error as error}
use Rattle.operators.specs.Classes.{is_true}
use Rattle.conditions.specs.declared.condition.Condition.{Condition}
use Rattle.conditions.specs.declared.places.Places.{Places}
use Rattle.conditions.specs.declared.truth.Truth.{Truth}
use Rattle.conditions.specs.declared.truth.Truth.TheVariants.{Known, At}
use Rattle.conditions.specs.Meaning.{value_at, value_by, values_after, values_of, names_above, blank, line_at}
use Rattle.conditions.specs.Places.{lines_in, values_in, value_in, place_in, Grows, holds, Inside}

after_push : (rs vs : List Value) (xs : List Condition) (x : Condition) → values_after rs vs (xs ++ x ∷ []) ≡ values_after rs vs xs ++ value_by rs (values_after rs vs xs) x ∷ []
after_push rs vs [] x = refl
after_push rs vs (y ∷ xs) x = after_push rs (vs ++ value_by rs vs y ∷ []) xs x

after_length : (rs vs : List Value) (xs : List Condition) → length (values_after rs vs xs) ≡ length vs + length xs
after_length rs vs [] = sym (add-zero _)
after_length rs vs (x ∷ xs) =
    let a = after_length rs (vs ++ value_by rs vs x ∷ []) xs in
    let b = length_push vs (value_by rs vs x) in
    omega (arith, a, b)

pub values_push : (rs : List Value) (xs : List Condition) (x : Condition) → values_of rs (xs ++ x ∷ []) ≡ values_of rs xs ++ value_by rs (values_of rs xs) x ∷ []
unfolding values_of
values_push rs xs x = after_push rs [] xs x

pub values_length : (rs : List Value) (xs : List Condition) → length (values_of rs xs) ≡ length xs
unfolding values_of
values_length rs xs = let e = after_length rs [] xs in omega (arith, e)

pub grows_none : (p : Places) → Grows p p 0
grows_none p = record { up = omega arith; most = omega arith; size = refl; kept = λ rs k h. refl; rest = λ k h. refl }

pub grows_both : {p q r : Places} {n k : ℕ} → Grows p q n → Grows q r k → Grows p r (n + k)
grows_both x y =
    let a = x.up in
    let b = y.up in
    let c = x.most in
    let d = y.most in
    record {
      up = omega (arith, a, b);
      most = omega (arith, c, d);
      size = y.size ∙ x.size;
      kept = λ rs k h. y.kept rs k (omega (arith, a, h)) ∙ x.kept rs k h;
      rest = λ k h. y.rest k h ∙ x.rest k (omega (arith, b, h));
    }

pub grows_more : {p q : Places} {n k : ℕ} → Grows p q n → n ≤ k → Grows p q k
grows_more x h = let m = x.most in record { up = x.up; most = omega (arith, m, h); size = x.size; kept = x.kept; rest = x.rest }

pub inside_kept : {p q : Places} {n : ℕ} → Grows p q n → (a : Truth) → Inside p a → Inside q a
inside_kept g (Known b) h = tt
inside_kept g (At k) h = let u = g.up in omega (arith, u, h)

pub holds_kept : {p q : Places} {n : ℕ} → Grows p q n → (rs : List Value) (a : Truth) → Inside p a → holds q rs a ≡ holds p rs a
holds_kept g rs (Known b) h = refl
holds_kept g rs (At k) h = ap is_true (g.kept rs k h)

-- q is p with x written at the first place that is free
module _ (p q : Places) (x : Condition) (l : p.used < length (vec_items p.lines)) (u : q.used ≡ p.used + 1) (e : vec_items q.lines ≡ slice_set (vec_items p.lines) p.used x) where
  pushed : lines_in q ≡ lines_in p ++ x ∷ []
  pushed = ap (λ n. take n (vec_items q.lines)) u ∙ ap (take (p.used + 1)) e ∙ take_more_set (vec_items p.lines) p.used x l

  long : length (lines_in p) ≡ p.used
  long = length-take-le p.used (vec_items p.lines) (omega (arith, l))

  grew : (rs : List Value) → values_in q rs ≡ values_in p rs ++ value_by rs (values_in p rs) x ∷ []
  unfolding values_in
  grew rs = ap (values_of rs) pushed ∙ values_push rs (lines_in p) x

  size : (rs : List Value) → length (values_in p rs) ≡ p.used
  unfolding values_in
  size rs = values_length rs (lines_in p) ∙ long

  pub put_kept : (rs : List Value) (k : ℕ) → k < p.used → value_in q rs k ≡ value_in p rs k
  put_kept rs k h = let s = size rs in ap (λ vs. value_at vs k) (grew rs) ∙ get_or_append_left (values_in p rs) _ error k (omega (arith, s, h))

  pub put_value : (rs : List Value) → value_in q rs p.used ≡ value_by rs (values_in p rs) x
  put_value rs = ap (λ vs. value_at vs p.used) (grew rs) ∙ get_or_push (values_in p rs) _ error p.used (size rs)

  pub put_rest : (k : ℕ) → q.used ≤ k → place_in q k ≡ place_in p k
  put_rest k h = ap (λ xs. line_at xs k) e ∙ get_or-set_other (vec_items p.lines) p.used k x blank (λ q. omega (arith, q, h, u))

  pub put_grows : vec_len q.lines ≡ vec_len p.lines → Grows p q 1
  put_grows s = record { up = omega (arith, u); most = omega (arith, u); size = s; kept = put_kept; rest = put_rest }

-- one line more, and still each names only lines above it
pub above-more : (xs : List Condition) (n : ℕ) (x : Condition) → n < length xs → ((k : ℕ) → k < n → names_above k (line_at xs k) ≡ true) → names_above n x ≡ true
    → (k : ℕ) → k < n + 1 → names_above k (line_at (slice_set xs n x) k) ≡ true
above-more xs n x l a h k u = elim (cases_lt k n) [
  | inl v ↦ ap (names_above k) (get_or-set_other xs n k x blank (λ q. omega (arith, q, v))) ∙ a k v
  | inr v ↦ let e : k ≡ n = omega (arith, u, v) in ap (λ j. names_above j (line_at (slice_set xs n x) j)) e ∙ ap (names_above n) (get_or-set_same xs n x blank l) ∙ h
]
