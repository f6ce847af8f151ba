-- Members joined by commas, read one after the other.
use Rattle.std.proofs.Common.{◌≡◌, ℕ, ◌+◌, ◌-◌, ◌*◌, ◌<◌, ◌≤◌, Bool, true, false, cond, not, ◌&&◌, eqb, ltb, leb, List, [], ◌∷◌, ◌++◌, length, get_or, Some, None, codes, Option, sym, refl, ap, ◌∙◌, subst, append_assoc, arith, length-append}
use Rattle.std.proofs.lemmas.Bool.Decides.{nat_tests}
use Rattle.std.specs.Str.{bytes_eq}
use Rattle.values.specs.Options.{each, bind, or_else}
use Rattle.values.specs.Sets.{joined}
use Rattle.values.specs.Short.{text_for}
use Rattle.values.specs.declared.value.Value.{Value}
use Rattle.values.specs.declared.value.Value.TheVariants.{Missing as missing, Error as error, Bool as boolean, Number as number, Text as text, Numbers as numbers, Texts as texts}
use Rattle.spelling.specs.Cuts.{parts, cut_of, onto}
use Rattle.spelling.specs.Numbers.{is_digit, digits_after, natural_of, at_most, positive, negative, number_of}
use Rattle.spelling.specs.Words.{is_letter, all_word_bytes, text_of}
use Rattle.spelling.specs.Cells.{read_all, at_most_eight, gathered, word_of, cell_of}
use Rattle.spelling.proofs.Cuts.{parts_none, parts-some, some-part}

same_test : {A : Type 0} (before : List A) (x : A) → leb (length (before ++ x ∷ [])) 8 ≡ ltb (length before) 8
same_test before x = let e = length-append before (x ∷ []) in grind (arith, nat_tests)

joins : {A : Type 0} (before : List A) (x : A) → at_most_eight (before ++ x ∷ []) ≡ joined before x
joins before x = ap (λ t. cond t (Some (before ++ x ∷ [])) None) (same_test before x)

too_many : {A : Type 0} (before : List A) (x : A) (zs : List A) → ltb (length before) 8 ≡ false → at_most_eight (before ++ x ∷ zs) ≡ None
too_many before x zs h = let e = length-append before (x ∷ zs) in grind (arith, nat_tests)

module _ {A : Type 0} (f : List ℕ → Option A) where
  -- what `before` and the members of xs make together
  pub more : List ℕ → List A → Option (List A)
  more xs before = bind (read_all f (parts 44 xs)) (λ zs. at_most_eight (before ++ zs))

  one_of : (o : Option A) (before : List A) → bind (bind o (λ x. each (λ xs. x ∷ xs) (Some []))) (λ zs. at_most_eight (before ++ zs)) ≡ bind o (λ x. joined before x)
  one_of None before = refl
  one_of (Some x) before = joins before x

  pub last_member : (xs : List ℕ) (before : List A) → cut_of 44 xs ≡ None → more xs before ≡ bind (f xs) (λ x. joined before x)
  unfolding more
  last_member xs before h = ap (λ ps. bind (read_all f ps) (λ zs. at_most_eight (before ++ zs))) (parts_none 44 xs h) ∙ one_of (f xs) before

  rest_of : (x : A) (o : Option (List A)) (before : List A) (t : Bool) → ltb (length before) 8 ≡ t
      → bind (each (λ xs. x ∷ xs) o) (λ zs. at_most_eight (before ++ zs)) ≡ bind (cond t (Some (before ++ x ∷ [])) None) (λ b. bind o (λ zs. at_most_eight (b ++ zs)))
  rest_of x None before true h = refl
  rest_of x None before false h = refl
  rest_of x (Some zs) before true h = ap at_most_eight (sym (append_assoc before (x ∷ []) zs))
  rest_of x (Some zs) before false h = too_many before x zs h

  some_of : (o : Option A) (r : Option (List A)) (before : List A)
      → bind (bind o (λ x. each (λ xs. x ∷ xs) r)) (λ zs. at_most_eight (before ++ zs)) ≡ bind o (λ x. bind (joined before x) (λ b. bind r (λ zs. at_most_eight (b ++ zs))))
  some_of None r before = refl
  some_of (Some x) r before = rest_of x r before (ltb (length before) 8) refl

  pub next_member : (xs : List ℕ) (p : List ℕ × List ℕ) (before : List A) → cut_of 44 xs ≡ Some p → more xs before ≡ bind (f p.0) (λ x. bind (joined before x) (λ b. more p.1 b))
  unfolding more
  next_member xs p before h = ap (λ ps. bind (read_all f ps) (λ zs. at_most_eight (before ++ zs))) (parts-some 44 xs p h) ∙ some_of (f p.0) (read_all f (parts 44 p.1)) before

  module _ (one : A → Value) (set : List A → Value) where
    lone : (o : Option A) → bind (bind o (λ x. each (λ xs. x ∷ xs) (Some []))) (gathered one set) ≡ each one o
    lone None = refl
    lone (Some x) = refl

    -- one member
    pub only_member : (xs : List ℕ) → cut_of 44 xs ≡ None → bind (read_all f (parts 44 xs)) (gathered one set) ≡ each one (f xs)
    only_member xs h = ap (λ ps. bind (read_all f ps) (gathered one set)) (parts_none 44 xs h) ∙ lone (f xs)

    second : (x : A) (o : Option A) (r : Option (List A))
        → bind (each (λ xs. x ∷ xs) (bind o (λ y. each (λ ys. y ∷ ys) r))) (gathered one set) ≡ each set (bind (bind o (λ y. each (λ ys. y ∷ ys) r)) (λ zs. at_most_eight (x ∷ zs)))
    second x None r = refl
    second x (Some y) None = refl
    second x (Some y) (Some zs) = refl

    first : (o : Option A) (ps : List (List ℕ)) (q : List ℕ) (qs : List (List ℕ)) → ps ≡ q ∷ qs
        → bind (bind o (λ x. each (λ xs. x ∷ xs) (read_all f ps))) (gathered one set) ≡ bind o (λ x. each set (bind (read_all f ps) (λ zs. at_most_eight (x ∷ zs))))
    first None ps q qs h = refl
    first (Some x) ps q qs h = subst (λ rs. bind (each (λ xs. x ∷ xs) (read_all f rs)) (gathered one set) ≡ each set (bind (read_all f rs) (λ zs. at_most_eight (x ∷ zs)))) (sym h) (second x (f q) (read_all f qs))

    -- two members and more
    pub several : (xs : List ℕ) (p : List ℕ × List ℕ) → cut_of 44 xs ≡ Some p → bind (read_all f (parts 44 xs)) (gathered one set) ≡ bind (f p.0) (λ x. each set (more p.1 (x ∷ [])))
    unfolding more
    several xs p h =
        let s = some-part 44 p.1 in
        ap (λ ps. bind (read_all f ps) (gathered one set)) (parts-some 44 xs p h) ∙ first (f p.0) (parts 44 p.1) s.0 s.1.0 s.1.1

-- the same by one cut, as the code goes
abbrev pub more_by : {A : Type 0} → (List ℕ → Option A) → List ℕ → List A → Option (List ℕ × List ℕ) → Option (List A)
more_by f xs before None = bind (f xs) (λ x. joined before x)
more_by f xs before (Some p) = bind (f p.0) (λ x. bind (joined before x) (λ b. bind (read_all f (parts 44 p.1)) (λ zs. at_most_eight (b ++ zs))))

pub more_cut : {A : Type 0} (f : List ℕ → Option A) (xs : List ℕ) (before : List A) → bind (read_all f (parts 44 xs)) (λ zs. at_most_eight (before ++ zs)) ≡ more_by f xs before (cut_of 44 xs)
unfolding more
more_cut {A = A} f xs before = at (cut_of 44 xs) refl where
  at : (o : Option (List ℕ × List ℕ)) → cut_of 44 xs ≡ o → bind (read_all f (parts 44 xs)) (λ zs. at_most_eight (before ++ zs)) ≡ more_by f xs before o
  at None h = last_member f xs before h
  at (Some p) h = next_member f xs p before h

abbrev pub gathered_by : {A : Type 0} → (List ℕ → Option A) → (A → Value) → (List A → Value) → List ℕ → Option (List ℕ × List ℕ) → Option Value
gathered_by f one set xs None = each one (f xs)
gathered_by f one set xs (Some p) = bind (f p.0) (λ x. each set (bind (read_all f (parts 44 p.1)) (λ zs. at_most_eight (x ∷ zs))))

pub gathered_cut : {A : Type 0} (f : List ℕ → Option A) (one : A → Value) (set : List A → Value) (xs : List ℕ) → bind (read_all f (parts 44 xs)) (gathered one set) ≡ gathered_by f one set xs (cut_of 44 xs)
unfolding more
gathered_cut {A = A} f one set xs = at (cut_of 44 xs) refl where
  at : (o : Option (List ℕ × List ℕ)) → cut_of 44 xs ≡ o → bind (read_all f (parts 44 xs)) (gathered one set) ≡ gathered_by f one set xs o
  at None h = only_member f one set xs h
  at (Some p) h = several f one set xs p h

-- a letter begins no number, and nothing but a letter begins a text
no_natural : (b : ℕ) (q : List ℕ) → is_letter b ≡ true → natural_of (b ∷ q) ≡ None
no_natural b [] h = let d : is_digit b ≡ false = grind (arith, nat_tests) in ap (λ t. cond t (Some (0 * 10 + (b - 48))) None) d
no_natural b (c ∷ q) h =
    let z : eqb b 48 ≡ false = grind (arith, nat_tests) in
    let d : is_digit b ≡ false = grind (arith, nat_tests) in
    (λ i. cond (z i) None (cond (d i) (digits_after (0 * 10 + (b - 48)) (c ∷ q)) None))

no_number : (b : ℕ) (q : List ℕ) → is_letter b ≡ true → number_of (b ∷ q) ≡ None
no_number b q h =
    let m : eqb b 45 ≡ false = grind (arith, nat_tests) in
    (λ i. cond (m i) (negative (at_most 2147483648 (natural_of q))) (positive (at_most 2147483647 (no_natural b q h i))))

no_text : (b : ℕ) (q : List ℕ) → is_letter b ≡ false → text_of (b ∷ q) ≡ None
no_text b q h = ap (λ t. cond ((t && all_word_bytes false q) && (not (bytes_eq (b ∷ q) (codes "true")) && not (bytes_eq (b ∷ q) (codes "false")))) (text_for (b ∷ q)) None) h

first_read : {A : Type 0} (f : List ℕ → Option A) (b : ℕ) (ps : List (List ℕ)) (t : Bool) → (t ≡ true → f [] ≡ None) → ((q : List ℕ) → f (b ∷ q) ≡ None) → read_all f (cond t ([] ∷ ps) (onto b ps)) ≡ None
first_read f b ps true g h = ap (λ o. bind o (λ x. each (λ xs. x ∷ xs) (read_all f ps))) (g refl)
first_read f b [] false g h = ap (λ o. bind o (λ x. each (λ xs. x ∷ xs) (read_all f []))) (h [])
first_read f b (p ∷ ps) false g h = ap (λ o. bind o (λ x. each (λ xs. x ∷ xs) (read_all f ps))) (h p)

no_numbers : (b : ℕ) (bs : List ℕ) → is_letter b ≡ true → read_all number_of (parts 44 (b ∷ bs)) ≡ None
no_numbers b bs h = first_read number_of b (parts 44 bs) (eqb b 44) (λ _. refl) (λ q. no_number b q h)

no_texts : (b : ℕ) (bs : List ℕ) → is_letter b ≡ false → read_all text_of (parts 44 (b ∷ bs)) ≡ None
no_texts b bs h = first_read text_of b (parts 44 bs) (eqb b 44) (λ _. refl) (λ q. no_text b q h)

or_none : {A : Type 0} (o : Option A) → or_else o None ≡ o
or_none None = refl
or_none (Some x) = refl

-- a cell that begins with a letter
pub letter_cell : (b : ℕ) (bs : List ℕ) → is_letter b ≡ true → word_of (b ∷ bs) (bind (read_all text_of (parts 44 (b ∷ bs))) (gathered text texts)) ≡ cell_of (b ∷ bs)
letter_cell b bs h =
    let m : eqb b 45 ≡ false = grind (arith, nat_tests) in
    let x : eqb b 33 ≡ false = grind (arith, nat_tests) in
    let n = no_numbers b bs h in
    let t = bind (read_all text_of (parts 44 (b ∷ bs))) (gathered text texts) in
    sym (λ i. cond (m i && bytes_eq bs []) (Some missing) (cond (x i && bytes_eq bs []) (Some error) (word_of (b ∷ bs) (or_else (bind (n i) (gathered number numbers)) t))))

-- a cell that begins with anything else, and is not one of the two marks
pub other_cell : (b : ℕ) (bs : List ℕ) → is_letter b ≡ false → eqb b 45 && bytes_eq bs [] ≡ false → eqb b 33 && bytes_eq bs [] ≡ false → bind (read_all number_of (parts 44 (b ∷ bs))) (gathered number numbers) ≡ cell_of (b ∷ bs)
other_cell b bs h m x =
    let t : eqb b 116 ≡ false = grind (arith, nat_tests) in
    let f : eqb b 102 ≡ false = grind (arith, nat_tests) in
    let n = no_texts b bs h in
    let r = bind (read_all number_of (parts 44 (b ∷ bs))) (gathered number numbers) in
    sym ((λ i. cond (m i) (Some missing) (cond (x i) (Some error) (cond (t i && bytes_eq bs (codes "rue")) (Some (boolean true)) (cond (f i && bytes_eq bs (codes "alse")) (Some (boolean false)) (or_else r (bind (n i) (gathered text texts))))))) ∙ or_none r)

-- the same of any bytes
pub empty_cell : (xs : List ℕ) → length xs < 1 → None ≡ cell_of xs
empty_cell [] h = refl
empty_cell (x ∷ xs) h = absurd (omega arith)

mark : (b : ℕ) (v : Value) → Some v ≡ cell_of (b ∷ []) → (xs : List ℕ) → length xs ≡ 1 → get_or xs 0 0 ≡ b → Some v ≡ cell_of xs
mark b v e [] n h = absurd (omega arith)
mark b v e (x ∷ []) n h = e ∙ ap (λ y. cell_of (y ∷ [])) (sym h)
mark b v e (x ∷ y ∷ xs) n h = absurd (omega arith)

pub minus_mark : (xs : List ℕ) → length xs ≡ 1 → get_or xs 0 0 ≡ 45 → Some missing ≡ cell_of xs
minus_mark = mark 45 missing refl

pub error_mark : (xs : List ℕ) → length xs ≡ 1 → get_or xs 0 0 ≡ 33 → Some error ≡ cell_of xs
error_mark = mark 33 error refl

pub letter_first : (xs : List ℕ) → 1 ≤ length xs → is_letter (get_or xs 0 0) ≡ true → word_of xs (bind (read_all text_of (parts 44 xs)) (gathered text texts)) ≡ cell_of xs
letter_first [] n h = absurd (omega arith)
letter_first (b ∷ bs) n h = letter_cell b bs h

no_mark : (k b : ℕ) (bs : List ℕ) → (length (b ∷ bs) ≡ 1 → b ≡ k → ⊥) → eqb b k && bytes_eq bs [] ≡ false
no_mark k b [] h = let apart : b ≡ k → ⊥ = h refl in grind (arith, nat_tests)
no_mark k b (c ∷ bs) h = grind (arith, nat_tests)

pub other_first : (xs : List ℕ) → 1 ≤ length xs → is_letter (get_or xs 0 0) ≡ false → (length xs ≡ 1 → get_or xs 0 0 ≡ 45 → ⊥) → (length xs ≡ 1 → get_or xs 0 0 ≡ 33 → ⊥) → bind (read_all number_of (parts 44 xs)) (gathered number numbers) ≡ cell_of xs
other_first [] n h m x = absurd (omega arith)
other_first (b ∷ bs) n h m x = other_cell b bs h (no_mark 45 b bs m) (no_mark 33 b bs x)
