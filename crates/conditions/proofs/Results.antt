-- The results of the flat pass, line by line.
use Rattle.std.proofs.Common.{◌≡◌, ℕ, zero, suc, ◌+◌, ◌<◌, ◌≤◌, List, [], ◌∷◌, ◌++◌, length, take, slice_index_or, slice_set, vec_items, replicate, ℤ, pos, refl, sym, ap, ◌∙◌, inl, inr, arith, length-take-le}
use Rattle.std.proofs.lemmas.List.{take_more, get_or_append_left, get_or_push, get_or_past, length_push, get_or-set_same, get_or-set_other}
use Rattle.std.proofs.lemmas.Bool.{cases_lt, cases_eq}
use Rattle.values.specs.declared.value.Value.{Value}
use Rattle.values.specs.declared.value.Value.TheVariants.{Error as error}
use Rattle.conditions.specs.declared.condition.Condition.{Condition}
use Rattle.conditions.specs.declared.condition.Condition.TheVariants as c
use Rattle.conditions.specs.declared.class.Class.{Class}
use Rattle.conditions.specs.declared.class.Class.TheVariants as d
use Rattle.conditions.specs.declared.places.Places.{Places}
use Rattle.operators.specs.declared.operand.Outcome.{Outcome}
use Rattle.operators.specs.Operands.{given}
use Rattle.conditions.specs.Results.{narrow, outcome_of, result_at, values_to, HaveResults}
use Rattle.conditions.specs.Meaning.{value_at, value_by, values_of, blank, line_at}
use Rattle.conditions.specs.Places.{values_in}
use Rattle.conditions.proofs.Growing.{values_push, values_length}
use Rattle.conditions.proofs.Small.{Small, not_small, applied_small}

module _ (rs : List Value) (xs : List Condition) where
  -- one line more
  values_more : (n : ℕ) → n < length xs → values_of rs (take (n + 1) xs) ≡ values_of rs (take n xs) ++ value_by rs (values_of rs (take n xs)) (line_at xs n) ∷ []
  values_more n h = ap (values_of rs) (take_more xs n blank h) ∙ values_push rs (take n xs) (line_at xs n)

  count : (n : ℕ) → n ≤ length xs → length (values_of rs (take n xs)) ≡ n
  count n h = values_length rs (take n xs) ∙ length-take-le n xs h

  -- the value of line k is that by the values of the lines above it
  pub values_at : (n k : ℕ) → k < n → n ≤ length xs → value_at (values_of rs (take n xs)) k ≡ value_by rs (values_of rs (take k xs)) (line_at xs k)
  values_at zero k h l = absurd (omega arith)
  values_at (suc n) k h l =
      let s : suc n ≡ n + 1 = omega arith in
      let m = count n (omega (arith, l)) in
      ap (λ j. value_at (values_of rs (take j xs)) k) s ∙ ap (λ vs. value_at vs k) (values_more n (omega (arith, l))) ∙ elim (cases_lt k n) [
        | inl u ↦ get_or_append_left (values_of rs (take n xs)) _ error k (omega (arith, m, u)) ∙ values_at n k u (omega (arith, l))
        | inr u ↦
            let e : k ≡ n = omega (arith, h, u) in
            get_or_push (values_of rs (take n xs)) _ error k (m ∙ sym e) ∙ ap (λ j. value_by rs (values_of rs (take j xs)) (line_at xs j)) (sym e)
      ]

-- a line that is no reading and no text has a small value
small_line : (rs vs : List Value) (x : Condition) → ((k : ℕ) → x ≡ c.Reading k → ⊥) → ((t : List ℕ) → x ≡ c.Text t → ⊥) → Small (value_by rs vs x)
small_line rs vs (c.Truth b) r t = refl
small_line rs vs (c.Reading k) r t = absurd (r k refl)
small_line rs vs (c.Number z) r t = refl
small_line rs vs (c.Text x) r t = absurd (t x refl)
small_line rs vs (c.Not j) r t = not_small (value_at vs j)
small_line rs vs (c.Binary o j k) r t = applied_small o (value_at vs j) (value_at vs k)
small_line rs vs (c.Test t' j) r t = refl
small_line rs vs (c.Negation j) r t = refl
small_line rs vs (c.Both j k) r t = refl
small_line rs vs (c.Either j k) r t = refl

module _ (p : Places) (rs : List Value) (n k : ℕ) (h : k < n) (l : n ≤ length (vec_items p.lines)) {x : Condition} (e : x ≡ line_at (vec_items p.lines) k) where
  pub value_is : value_at (values_to n p rs) k ≡ value_by rs (values_to k p rs) x
  value_is = values_at rs (vec_items p.lines) n k h l ∙ ap (value_by rs (values_to k p rs)) (sym e)

  pub value-small : ((j : ℕ) → x ≡ c.Reading j → ⊥) → ((t : List ℕ) → x ≡ c.Text t → ⊥) → given (narrow (value_at (values_to n p rs) k)) ≡ value_at (values_to n p rs) k
  value-small r t = ap (λ v. given (narrow v)) value_is ∙ small_line rs (values_to k p rs) x r t ∙ sym value_is

-- before the first line no place has a result
pub none_have : (p : Places) (rs : List Value) (n k : ℕ) → HaveResults 0 p rs (replicate n d.Error) (replicate k (pos 0))
unfolding values_of
none_have p rs n k i = ap (λ x. outcome_of x (slice_index_or (replicate k (pos 0)) i (pos 0))) (same n i)
  where
    same : (n i : ℕ) → slice_index_or (replicate n d.Error) i d.Error ≡ d.Error
    same zero i = refl
    same (suc n) zero = refl
    same (suc n) (suc i) = same n i

-- one result more
pub have_more : (p : Places) (rs : List Value) (classes : List Class) (numbers : List ℤ) (n : ℕ) (x : Class) (z : ℤ) (r : Outcome) → n < length (vec_items p.lines) → n < length classes → n < length numbers → HaveResults n p rs classes numbers
    → outcome_of x z ≡ r → r ≡ narrow (value_by rs (values_to n p rs) (line_at (vec_items p.lines) n)) → HaveResults (n + 1) p rs (slice_set classes n x) (slice_set numbers n z)
have_more p rs classes numbers n x z r l u w h f e k =
    let xs = vec_items p.lines in
    let m = count rs xs n (omega (arith, l)) in
    let v = value_by rs (values_to n p rs) (line_at xs n) in
    let long = length_push (values_to n p rs) v in
    let last : narrow (value_at (values_to n p rs ++ v ∷ []) k) ≡ narrow (value_at (values_to (n + 1) p rs) k) = ap (λ vs. narrow (value_at vs k)) (sym (values_more rs xs n l)) in
    elim (cases_eq k n) [
      | inl q ↦
          ap (result_at (slice_set classes n x) (slice_set numbers n z)) q ∙ ap (λ y. outcome_of y (slice_index_or (slice_set numbers n z) n (pos 0))) (get_or-set_same classes n x d.Error u) ∙ ap (outcome_of x) (get_or-set_same numbers n z (pos 0) w)
          ∙ f ∙ e ∙ ap narrow (sym (get_or_push (values_to n p rs) v error k (m ∙ sym q))) ∙ last
      | inr q ↦
          ap (λ y. outcome_of y (slice_index_or (slice_set numbers n z) k (pos 0))) (get_or-set_other classes n k x d.Error q) ∙ ap (outcome_of (slice_index_or classes k d.Error)) (get_or-set_other numbers n k z (pos 0) q)
          ∙ h k ∙ ap narrow (elim (cases_lt k n) [
            | inl b ↦ sym (get_or_append_left (values_to n p rs) (v ∷ []) error k (omega (arith, m, b)))
            | inr b ↦ get_or_past (values_to n p rs) k error (omega (arith, m, b)) ∙ sym (get_or_past (values_to n p rs ++ v ∷ []) k error (omega (arith, long, m, b, q)))
          ]) ∙ last
    ]

-- with the results of all lines written the pass has the values of them all
pub all_have : (p : Places) (rs : List Value) (classes : List Class) (numbers : List ℤ) → HaveResults p.used p rs classes numbers → (k : ℕ) → result_at classes numbers k ≡ narrow (value_at (values_in p rs) k)
unfolding values_in
all_have p rs classes numbers h k = h k
