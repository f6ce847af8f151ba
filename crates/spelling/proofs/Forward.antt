-- What is written is read again: bytes without separators, and numbers.
use Rattle.std.proofs.Common.{◌≡◌, ℕ, suc, ◌+◌, ◌-◌, ◌*◌, ◌<◌, ◌≤◌, Bool, true, false, cond, ◌&&◌, eqb, ltb, leb, List, [], ◌∷◌, ◌++◌, length, get_or, take, drop, ℤ, pos, Some, None, codes, decimal, Option, refl, ap, ◌∙◌, ⊎_elim, add-one, arith, length-append}
use Rattle.std.proofs.lemmas.Fmt.{digits_decimal, digits_value-decimal, decimal_digit, decimal_nonempty, first_decimal}
use Rattle.std.proofs.lemmas.List.{take_at}
use Rattle.std.proofs.lemmas.Bool.{and_parts, eqb-true, cases_eq}
use Rattle.std.proofs.lemmas.Bool.Decides.{nat_tests}
use Rattle.std.specs.Str.{all_ascii_digits, bytes_eq}
use Rattle.spelling.specs.Cuts.{reach, cut_of, parts, Six, six_of}
use Rattle.spelling.specs.Numbers.{is_digit, digits_after, natural_of, at_most, positive, negative, number_of}
use Rattle.spelling.specs.Words.{is_letter, is_word_byte, all_word_bytes, is_word}
use Rattle.spelling.proofs.Back.{read_on, own, at_most_lem}
use Rattle.spelling.proofs.Cuts.{whole, parts-some}
use Rattle.spelling.proofs.Inversions.{held, past, either}

-- every byte is above c
abbrev pub over : ℕ → List ℕ → Bool
over c [] = true
over c (b ∷ bs) = ltb c b && over c bs

-- every byte is above the space
abbrev pub plain : List ℕ → Bool
plain xs = over 32 xs

pub over-both : (c : ℕ) (xs ys : List ℕ) → over c xs ≡ true → over c ys ≡ true → over c (xs ++ ys) ≡ true
over-both c [] ys p q = q
over-both c (x ∷ xs) ys p q = let r = and_parts (ltb c x) (over c xs) p in (λ i. r.0 i && over-both c xs ys r.1 q i)

pub over-ten : (xs : List ℕ) → plain xs ≡ true → over 10 xs ≡ true
over-ten [] p = refl
over-ten (x ∷ xs) p =
    let r = and_parts (ltb 32 x) (over 32 xs) p in
    let above : ltb 10 x ≡ true = grind (arith, nat_tests) in
    (λ i. above i && over-ten xs r.1 i)

-- a separator that stands nowhere

apart_step : (n r : ℕ) (t : Bool) → t ≡ false → r ≡ n → cond t 0 (r + 1) ≡ suc n
apart_step n r true h e = cc
apart_step n r false h e = omega arith

pub reach-all : (b : ℕ) (xs : List ℕ) → over b xs ≡ true → reach b xs ≡ length xs
reach-all b [] p = refl
reach-all b (x ∷ xs) p =
    let r = and_parts (ltb b x) (over b xs) p in
    let apart : eqb x b ≡ false = grind (arith, nat_tests) in
    apart_step (length xs) (reach b xs) (eqb x b) apart (reach-all b xs r.1)

reach-front : (b : ℕ) (xs ys : List ℕ) → over b xs ≡ true → reach b (xs ++ b ∷ ys) ≡ length xs
reach-front b [] ys p = let e : eqb b b ≡ true = grind (arith, nat_tests) in ap (λ t. cond t 0 (reach b ys + 1)) e
reach-front b (x ∷ xs) ys p =
    let r = and_parts (ltb b x) (over b xs) p in
    let apart : eqb x b ≡ false = grind (arith, nat_tests) in
    apart_step (length xs) (reach b (xs ++ b ∷ ys)) (eqb x b) apart (reach-front b xs ys r.1)

cut_at : (b : ℕ) (zs xs ys : List ℕ) (r : ℕ) → r ≡ length xs → zs ≡ xs ++ b ∷ ys → cond {A = Option (List ℕ × List ℕ)} (eqb r (length zs)) None (Some (take r zs, drop (r + 1) zs)) ≡ Some (xs, ys)
cut_at b zs xs ys r e z =
    let n = ap length z ∙ length-append xs (b ∷ ys) in
    let no : eqb r (length zs) ≡ false = grind (arith, nat_tests) in
    let front : take r zs ≡ xs = (λ i. take (e i) (z i)) ∙ take_at xs (b ∷ ys) (length xs) refl in
    let back : drop (r + 1) zs ≡ ys = (λ i. drop (e i + 1) (z i)) ∙ after-seam xs in
    (λ i. cond {A = Option (List ℕ × List ℕ)} (no i) None (Some (front i, back i))) where
      after-seam : (ws : List ℕ) → drop (length ws + 1) (ws ++ b ∷ ys) ≡ ys
      after-seam [] = refl
      after-seam (w ∷ ws) = simp add-one (simp add-one at (after-seam ws))

pub cut_front : (b : ℕ) (xs ys : List ℕ) → over b xs ≡ true → cut_of b (xs ++ b ∷ ys) ≡ Some (xs, ys)
cut_front b xs ys p = cut_at b (xs ++ b ∷ ys) xs ys (reach b (xs ++ b ∷ ys)) (reach-front b xs ys p) refl

parts-front : (b : ℕ) (xs ys : List ℕ) → over b xs ≡ true → parts b (xs ++ b ∷ ys) ≡ xs ∷ parts b ys
parts-front b xs ys p = parts-some b (xs ++ b ∷ ys) (xs, ys) (cut_front b xs ys p)

-- six fields with spaces between are read as they are
pub six-forward : (f : Six) → plain f.kind ≡ true → plain f.a ≡ true → plain f.b ≡ true → plain f.c ≡ true → plain f.d ≡ true → plain f.e ≡ true
    → six_of (parts 32 (f.kind ++ 32 ∷ (f.a ++ 32 ∷ (f.b ++ 32 ∷ (f.c ++ 32 ∷ (f.d ++ 32 ∷ f.e)))))) ≡ Some f
six-forward f p q r s t u =
    ap six_of (parts-front 32 f.kind _ p
    ∙ ap (λ ps. f.kind ∷ ps) (parts-front 32 f.a _ q
    ∙ ap (λ ps. f.a ∷ ps) (parts-front 32 f.b _ r
    ∙ ap (λ ps. f.b ∷ ps) (parts-front 32 f.c _ s
    ∙ ap (λ ps. f.c ∷ ps) (parts-front 32 f.d _ t
    ∙ ap (λ ps. f.d ∷ ps) (whole 32 f.e (reach-all 32 f.e u)))))))

-- what is read is plain

word_plain : (slash : Bool) (xs : List ℕ) → all_word_bytes slash xs ≡ true → plain xs ≡ true
word_plain slash [] h = refl
word_plain slash (b ∷ bs) h =
    let r = and_parts (is_word_byte slash b) (all_word_bytes slash bs) h in
    let above : ltb 32 b ≡ true = byte slash b r.0 in
    (λ i. above i && word_plain slash bs r.1 i) where
      byte : (t : Bool) (x : ℕ) → is_word_byte t x ≡ true → ltb 32 x ≡ true
      byte true x e = grind (arith, nat_tests)
      byte false x e = grind (arith, nat_tests)

pub is_word_plain : (slash : Bool) (xs : List ℕ) → is_word slash xs ≡ true → plain xs ≡ true
is_word_plain slash [] h = refl
is_word_plain slash (b ∷ bs) h =
    let r = and_parts (is_letter b) (all_word_bytes slash bs) h in
    let above : ltb 32 b ≡ true = grind (arith, nat_tests) in
    (λ i. above i && word_plain slash bs r.1 i)

digits_plain : (n : ℕ) (xs : List ℕ) (k : ℕ) → digits_after n xs ≡ Some k → plain xs ≡ true
digits_plain n [] k h = refl
digits_plain n (b ∷ bs) k h =
    let p = held (is_digit b) _ k h in
    let above : ltb 32 b ≡ true = grind (arith, nat_tests) in
    (λ i. above i && digits_plain (n * 10 + (b - 48)) bs k p.1 i)

natural_plain : (xs : List ℕ) (k : ℕ) → natural_of xs ≡ Some k → plain xs ≡ true
natural_plain [] k h = refl
natural_plain (b ∷ []) k h = digits_plain 0 (b ∷ []) k h
natural_plain (b ∷ c ∷ bs) k h = digits_plain 0 (b ∷ c ∷ bs) k (past (eqb b 48) _ k h).1

sign_natural : (f : Option ℕ → Option ℤ) (o : Option ℕ) (z : ℤ) → f None ≡ None → f o ≡ Some z → (n : ℕ) × (o ≡ Some n)
sign_natural f None z e h = let w : ◌≡◌ {A = ℕ} 0 1 = cc in absurd (omega arith)
sign_natural f (Some n) z e h = (n, refl)

pub number_plain : (xs : List ℕ) (z : ℤ) → number_of xs ≡ Some z → plain xs ≡ true
number_plain [] z h = refl
number_plain (b ∷ bs) z h = ⊎_elim
    (λ l. let n = sign_natural negative (at_most 2147483648 (natural_of bs)) z refl l.1 in
    let above : ltb 32 b ≡ true = ap (λ x. ltb 32 x) (eqb-true b 45 l.0) in
    (λ i. above i && natural_plain bs n.0 (at_most_lem 2147483648 (natural_of bs) n.0 n.1).0 i))
    (λ r. let n = sign_natural positive (at_most 2147483647 (natural_of (b ∷ bs))) z refl r.1 in
    natural_plain (b ∷ bs) n.0 (at_most_lem 2147483647 (natural_of (b ∷ bs)) n.0 n.1).0)
    (either (eqb b 45) _ _ z h)

-- a number from 0 on is read as it is written

digits_forward : (m : ℕ) (xs : List ℕ) → all_ascii_digits xs ≡ true → digits_after m xs ≡ Some (read_on m xs)
digits_forward m [] h = refl
digits_forward m (b ∷ bs) h =
    let d : is_digit b ≡ true = grind (arith, nat_tests) in
    let rest : all_ascii_digits bs ≡ true = grind (arith, nat_tests) in
    let e : m * 10 + (b - 48) ≡ 10 * m + (b - 48) = omega arith in
    ap (λ t. cond t (digits_after (m * 10 + (b - 48)) bs) None) d ∙ digits_forward (m * 10 + (b - 48)) bs rest ∙ ap (λ k. Some (read_on k bs)) e

natural_of_lem : (n : ℕ) (ds : List ℕ) → all_ascii_digits ds ≡ true → read_on 0 ds ≡ n → 0 < length ds → (1 < length ds → 48 < get_or ds 0 0) → natural_of ds ≡ Some n
natural_of_lem n [] a v s f = absurd (omega arith)
natural_of_lem n (b ∷ []) a v s f = digits_forward 0 (b ∷ []) a ∙ ap Some v
natural_of_lem n (b ∷ c ∷ bs) a v s f =
    let big = f (omega arith) in
    let no : eqb b 48 ≡ false = grind (arith, nat_tests) in
    ap (λ t. cond t None (digits_after 0 (b ∷ c ∷ bs))) no ∙ digits_forward 0 (b ∷ c ∷ bs) a ∙ ap Some v

first_digit : (n : ℕ) → n < 4294967296 → 1 < length (decimal n) → 48 < get_or (decimal n) 0 0
first_digit n lt h = ⊎_elim
    (λ z. let e = ap (λ k. length (decimal k)) z ∙ ap length (decimal_digit 0 (omega arith)) in absurd (omega (arith, e, h)))
    (λ ne. first_decimal n (omega (arith, ne)) (omega arith))
    (cases_eq n 0)

natural_forward : (n : ℕ) → n < 4294967296 → natural_of (decimal n) ≡ Some n
natural_forward n lt = natural_of_lem n (decimal n) (digits_decimal own n (omega arith)) (digits_value-decimal own n (omega arith)) (decimal_nonempty n (omega arith)) (first_digit n lt)

sign_of : (n : ℕ) (ds : List ℕ) → all_ascii_digits ds ≡ true → 0 < length ds → n ≤ 2147483647 → natural_of ds ≡ Some n → number_of ds ≡ Some (pos n)
sign_of n [] a s le h = absurd (omega arith)
sign_of n (b ∷ bs) a s le h =
    let no : eqb b 45 ≡ false = grind (arith, nat_tests) in
    let small : leb n 2147483647 ≡ true = grind (arith, nat_tests) in
    (λ i. cond (no i) (negative (at_most 2147483648 (natural_of bs))) (positive (at_most 2147483647 (h i)))) ∙ ap (λ t. positive (cond t (Some n) None)) small

pub decimal_number : (n : ℕ) → n ≤ 2147483647 → number_of (decimal n) ≡ Some (pos n)
decimal_number n le = sign_of n (decimal n) (digits_decimal own n (omega arith)) (decimal_nonempty n (omega arith)) le (natural_forward n (omega arith))

pub decimal_plain : (n : ℕ) → n ≤ 2147483647 → plain (decimal n) ≡ true
decimal_plain n le = number_plain (decimal n) (pos n) (decimal_number n le)

-- a number is not the mark of an unused field
pub not_dash : (xs : List ℕ) (z : ℤ) → number_of xs ≡ Some z → bytes_eq xs (codes "-") ≡ false
not_dash [] z h = refl
not_dash (b ∷ []) z h = dash (eqb b 45) refl where
  dash : (t : Bool) → eqb b 45 ≡ t → t && true ≡ false
  dash true e = cc
  dash false e = refl
not_dash (b ∷ c ∷ bs) z h = apart (eqb b 45) where
  apart : (t : Bool) → t && false ≡ false
  apart true = refl
  apart false = refl
