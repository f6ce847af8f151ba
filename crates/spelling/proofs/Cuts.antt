-- Cutting once and cutting at every separator.
use Rattle.std.proofs.Common.{◌≡◌, ℕ, suc, ◌+◌, ◌<◌, ◌≤◌, Bool, true, false, cond, not, eqb, ltb, List, [], ◌∷◌, length, take, drop, Some, None, Option, sym, refl, ap, ◌∙◌, subst, ⊎_elim, add-one, arith, length-drop}
use Rattle.std.proofs.lemmas.Bool.{eqb-true, eqb-false, cases_Bool, true≢false}
use Rattle.std.proofs.lemmas.Bool.Decides.{nat_tests}
use Rattle.std.specs.List.{position, position_or_len}
use Rattle.std.specs.Option.{is_some}
use Rattle.values.specs.Options.{each, bind}
use Rattle.spelling.specs.Cuts.{reach, cut_of, onto, parts, Six, six_of}

-- one part where there is no separator
whole_step : (b x : ℕ) (xs : List ℕ) (t : Bool) (r : ℕ) (ps : List (List ℕ)) → (r ≡ length xs → ps ≡ xs ∷ []) → cond t 0 (r + 1) ≡ suc (length xs) → cond t ([] ∷ ps) (onto x ps) ≡ (x ∷ xs) ∷ []
whole_step b x xs true r ps f h = absurd (omega arith)
whole_step b x xs false r ps f h = ap (onto x) (f (omega arith))

pub whole : (b : ℕ) (xs : List ℕ) → reach b xs ≡ length xs → parts b xs ≡ xs ∷ []
whole b [] h = refl
whole b (x ∷ xs) h = whole_step b x xs (eqb x b) (reach b xs) (parts b xs) (whole b xs) h

-- the first part and the others where there is one
first_step : (b x : ℕ) (xs : List ℕ) (t : Bool) (r : ℕ) → ((r ≡ length xs → ⊥) → parts b xs ≡ take r xs ∷ parts b (drop (r + 1) xs)) → (cond t 0 (r + 1) ≡ suc (length xs) → ⊥)
    → cond t ([] ∷ parts b xs) (onto x (parts b xs)) ≡ take (cond t 0 (r + 1)) (x ∷ xs) ∷ parts b (drop (cond t 0 (r + 1) + 1) (x ∷ xs))
first_step b x xs true r f h = refl
first_step b x xs false r f h = simp add-one (ap (onto x) (simp add-one at (f (λ e. h (omega arith)))))

pub first_part : (b : ℕ) (xs : List ℕ) → (reach b xs ≡ length xs → ⊥) → parts b xs ≡ take (reach b xs) xs ∷ parts b (drop (reach b xs + 1) xs)
first_part b [] h = absurd (h refl)
first_part b (x ∷ xs) h = first_step b x xs (eqb x b) (reach b xs) (first_part b xs) h

-- the parts by one cut
pub parts_by : ℕ → List ℕ → Option (List ℕ × List ℕ) → List (List ℕ)
parts_by b xs None = xs ∷ []
parts_by b xs (Some p) = p.0 ∷ parts b p.1

by_test : (b : ℕ) (xs : List ℕ) (t : Bool) → (t ≡ true → parts b xs ≡ xs ∷ []) → (t ≡ false → parts b xs ≡ take (reach b xs) xs ∷ parts b (drop (reach b xs + 1) xs))
    → parts b xs ≡ parts_by b xs (cond t None (Some (take (reach b xs) xs, drop (reach b xs + 1) xs)))
unfolding parts_by
by_test b xs true f g = f refl
by_test b xs false f g = g refl

pub parts_cut : (b : ℕ) (xs : List ℕ) → parts b xs ≡ parts_by b xs (cut_of b xs)
parts_cut b xs = by_test b xs (eqb (reach b xs) (length xs)) (λ t. whole b xs (eqb-true _ _ t)) (λ t. first_part b xs (eqb-false _ _ t))

pub parts_none : (b : ℕ) (xs : List ℕ) → cut_of b xs ≡ None → parts b xs ≡ xs ∷ []
unfolding parts_by
parts_none b xs h = parts_cut b xs ∙ ap (parts_by b xs) h

pub parts-some : (b : ℕ) (xs : List ℕ) (p : List ℕ × List ℕ) → cut_of b xs ≡ Some p → parts b xs ≡ p.0 ∷ parts b p.1
unfolding parts_by
parts-some b xs p h = parts_cut b xs ∙ ap (parts_by b xs) h

reach_step : (n r : ℕ) (t : Bool) → r ≤ n → cond t 0 (r + 1) ≤ suc n
reach_step n r true h = omega arith
reach_step n r false h = omega arith

pub reach-within : (b : ℕ) (xs : List ℕ) → reach b xs ≤ length xs
reach-within b [] = omega arith
reach-within b (x ∷ xs) = reach_step (length xs) (reach b xs) (eqb x b) (reach-within b xs)

-- there is always a first part
some-step : (x : ℕ) (ps : List (List ℕ)) (t : Bool) → (q : List ℕ) × ((qs : List (List ℕ)) × (cond t ([] ∷ ps) (onto x ps) ≡ q ∷ qs))
some-step x ps true = ([], (ps, refl))
some-step x [] false = (x ∷ [], ([], refl))
some-step x (p ∷ ps) false = (x ∷ p, (ps, refl))

pub some-part : (b : ℕ) (xs : List ℕ) → (q : List ℕ) × ((qs : List (List ℕ)) × (parts b xs ≡ q ∷ qs))
some-part b [] = ([], ([], refl))
some-part b (x ∷ xs) = some-step x (parts b xs) (eqb x b)

-- what is read of the parts, by one cut
module _ {A : Type 0} (b : ℕ) (F : List (List ℕ) → Option A) (G : List ℕ × List ℕ → Option A) (none : (xs : List ℕ) → F (xs ∷ []) ≡ None) (some : (p : List ℕ × List ℕ) → F (p.0 ∷ parts b p.1) ≡ G p) where
  at_cut : (xs : List ℕ) (o : Option (List ℕ × List ℕ)) → cut_of b xs ≡ o → F (parts b xs) ≡ bind o G
  at_cut xs None h = ap F (parts_none b xs h) ∙ none xs
  at_cut xs (Some p) h = ap F (parts-some b xs p h) ∙ some p

  pub cut_step : (xs : List ℕ) → F (parts b xs) ≡ bind (cut_of b xs) G
  cut_step xs = at_cut xs (cut_of b xs) refl

-- the sixth part is the last
sixth : (k a b c d xs : List ℕ) (t : Bool) → ltb (reach 32 xs) (length xs) ≡ t → six_of (k ∷ a ∷ b ∷ c ∷ d ∷ parts 32 xs) ≡ cond t None (Some (record { kind = k; a = a; b = b; c = c; d = d; e = xs }))
sixth k a b c d xs true h =
    let more = first_part 32 xs (λ e. let z : reach 32 xs < length xs = grind (arith, nat_tests) in omega arith) in
    let rest = some-part 32 (drop (reach 32 xs + 1) xs) in
    ap (λ ps. six_of (k ∷ a ∷ b ∷ c ∷ d ∷ ps)) (more ∙ ap (λ ps. take (reach 32 xs) xs ∷ ps) rest.1.1)
sixth k a b c d xs false h =
    let le = reach-within 32 xs in
    let all : reach 32 xs ≡ length xs = grind (arith, nat_tests) in
    ap (λ ps. six_of (k ∷ a ∷ b ∷ c ∷ d ∷ ps)) (whole 32 xs all)

-- the same by the library's search for the first separator
first_step_of : (r n : ℕ) (t : Bool) → r ≡ n → cond t 0 (r + 1) ≡ cond (not t) (1 + n) 0
first_step_of r n true h = refl
first_step_of r n false h = omega (arith, h)

pub reach_is : (b : ℕ) (xs : List ℕ) → reach b xs ≡ position_or_len (λ x. eqb x b) xs
reach_is b [] = refl
reach_is b (x ∷ xs) = first_step_of (reach b xs) (position_or_len (λ y. eqb y b) xs) (eqb x b) (reach_is b xs)

abbrev pub cut_before : List ℕ → ℕ → List ℕ × List ℕ
cut_before xs i = (take i xs, drop (i + 1) xs)

cut_by : (xs : List ℕ) (r n : ℕ) → r ≡ n → r ≤ length xs → cond (eqb r (length xs)) None (Some (cut_before xs r)) ≡ each (cut_before xs) (cond (ltb n (length xs)) (Some n) None)
cut_by xs r n e h = by (eqb r (length xs)) (ltb n (length xs)) (grind (arith, nat_tests)) where
  by : (t u : Bool) → u ≡ not t → cond t None (Some (cut_before xs r)) ≡ each (cut_before xs) (cond u (Some n) None)
  by true true p = absurd (true≢false p)
  by true false p = refl
  by false true p = ap (λ i. Some (cut_before xs i)) e
  by false false p = absurd (true≢false (sym p))

pub cut_at : (b : ℕ) (xs : List ℕ) → cut_of b xs ≡ each (cut_before xs) (position (λ x. eqb x b) xs)
cut_at b xs = cut_by xs (reach b xs) (position_or_len (λ x. eqb x b) xs) (reach_is b xs) (reach-within b xs)

pub cut_found : (b : ℕ) (xs : List ℕ) (i : ℕ) (before after : List ℕ) → position (λ x. eqb x b) xs ≡ Some i → before ≡ take i xs → after ≡ drop (i + 1) xs → Some (before, after) ≡ cut_of b xs
cut_found b xs i before after p q r = (λ k. Some (q k, r k)) ∙ sym (cut_at b xs ∙ ap (each (cut_before xs)) p)

is_some_of : (t : Bool) (n : ℕ) → is_some (cond t (Some n) None) ≡ t
is_some_of true n = refl
is_some_of false n = refl

found : (b : ℕ) (xs : List ℕ) → is_some (position (λ x. eqb x b) xs) ≡ ltb (reach b xs) (length xs)
found b xs = is_some_of (ltb (position_or_len (λ x. eqb x b) xs) (length xs)) (position_or_len (λ x. eqb x b) xs) ∙ ap (λ n. ltb n (length xs)) (sym (reach_is b xs))

-- the six fields by five cuts
abbrev pub six_by : List ℕ → Option Six
six_by xs =
    bind (cut_of 32 xs) (λ p.
    bind (cut_of 32 p.1) (λ q.
    bind (cut_of 32 q.1) (λ r.
    bind (cut_of 32 r.1) (λ s.
    bind (cut_of 32 s.1) (λ t.
    cond (is_some (position (λ x. eqb x 32) t.1)) None
    (Some (record { kind = p.0; a = q.0; b = r.0; c = s.0; d = t.0; e = t.1 })))))))

pub six_by_cuts : (xs : List ℕ) → six_of (parts 32 xs) ≡ six_by xs
six_by_cuts =
    cut_step 32 six_of _ (λ _. refl) (λ p.
    cut_step 32 (λ ps. six_of (p.0 ∷ ps)) _ (λ _. refl) (λ q.
    cut_step 32 (λ ps. six_of (p.0 ∷ q.0 ∷ ps)) _ (λ _. refl) (λ r.
    cut_step 32 (λ ps. six_of (p.0 ∷ q.0 ∷ r.0 ∷ ps)) _ (λ _. refl) (λ s.
    cut_step 32 (λ ps. six_of (p.0 ∷ q.0 ∷ r.0 ∷ s.0 ∷ ps)) _ (λ _. refl) (λ t.
    sixth p.0 q.0 r.0 s.0 t.0 t.1 (is_some (position (λ x. eqb x 32) t.1)) (sym (found 32 t.1))) s.1) r.1) q.1) p.1)

pub cut_shorter : (b : ℕ) (xs : List ℕ) (p : List ℕ × List ℕ) → cut_of b xs ≡ Some p → length p.1 < length xs
cut_shorter b xs p h = ⊎_elim
    (λ t. cc)
    (λ t. let e : (take (reach b xs) xs, drop (reach b xs + 1) xs) ≡ p = cc in
    let apart = eqb-false (reach b xs) (length xs) t in
    let le = reach-within b xs in
    let d = length-drop (reach b xs + 1) xs in
    let lt : length (drop (reach b xs + 1) xs) < length xs = omega (arith, apart, le, d) in
    subst (λ (q : List ℕ × List ℕ). length q.1 < length xs) e lt)
    (cases_Bool (eqb (reach b xs) (length xs)))
