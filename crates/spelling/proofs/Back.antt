-- What was read is spelled in one way: each reader's value gives back the bytes.
use Rattle.std.proofs.lemmas.Option.{same_Some}
use Rattle.std.proofs.Common.{◌≡◌, ℕ, zero, suc, ◌+◌, ◌-◌, ◌*◌, ◌≤◌, Bool, true, false, cond, eqb, ltb, leb, List, [], ◌∷◌, ◌++◌, length, ℤ, pos, negsuc, neg_ℤ, Some, None, decimal, Option, sym, refl, ap, ◌∙◌, ⊎_elim, arith, rules}
use Rattle.std.proofs.lemmas.Fmt.{decimal-digits_value}
use Rattle.std.proofs.lemmas.Str.Parse.{IsNumeralModel, numerals_by_fold}
use Rattle.std.proofs.lemmas.Bool.{eqb-true, eqb-false}
use Rattle.std.proofs.lemmas.Bool.Decides.{nat_tests}
use Rattle.std.specs.Fmt.{signed_decimal}
use Rattle.std.specs.Str.{all_ascii_digits, bytes_eq}
use Rattle.values.specs.Short.{Name, Text, name_for, text_for}
use Rattle.spelling.specs.Algorithms.{algorithm_named, strategy_named, combining_of, algorithm_word, strategy_word, combining_word}
use Rattle.spelling.specs.Cuts.{cut_of, parts, onto, Six, six_of}
use Rattle.spelling.specs.Numbers.{is_digit, digits_after, natural_of, at_most, positive, negative, number_of, action_of, to_fifteen}
use Rattle.spelling.specs.Words.{is_word, is_text, name_of, text_of}
use Rattle.spelling.specs.declared.algorithm.Algorithm.{Algorithm}
use Rattle.spelling.specs.declared.algorithm.Algorithm.TheVariants as a
use Rattle.spelling.specs.declared.algorithm.Combining.{Combining}
use Rattle.spelling.specs.declared.algorithm.Strategy.{Strategy}
use Rattle.spelling.specs.declared.algorithm.Strategy.TheVariants as s
use Rattle.spelling.proofs.Cuts.{parts-some, some-part}
use Rattle.spelling.proofs.Inversions.{bind-some, each-some, past, held, either, same}

abbrev pub read_on : ℕ → List ℕ → ℕ
read_on n [] = n
read_on n (c ∷ cs) = read_on (10 * n + (c - 48)) cs

pub own : IsNumeralModel (λ ds. all_ascii_digits ds ≡ true) (read_on 0)
own = numerals_by_fold _ (search rules) read_on (search rules)

digits_read : (n : ℕ) (xs : List ℕ) (k : ℕ) → digits_after n xs ≡ Some k → (k ≡ read_on n xs) × (all_ascii_digits xs ≡ true)
digits_read n [] k h = (sym (same_Some _ _ h), refl)
digits_read n (b ∷ bs) k h =
    let p = held (is_digit b) _ k h in
    let q = digits_read (n * 10 + (b - 48)) bs k p.1 in
    let same : n * 10 + (b - 48) ≡ 10 * n + (b - 48) = omega arith in
    (q.0 ∙ ap (λ m. read_on m bs) same, grind (arith, nat_tests))

pub at_most_lem : (limit : ℕ) (o : Option ℕ) (k : ℕ) → at_most limit o ≡ Some k → (o ≡ Some k) × (k ≤ limit)
at_most_lem limit None k h = cc
at_most_lem limit (Some n) k h =
    let p = held (leb n limit) (Some n) k h in
    let e = same_Some _ _ p.1 in
    let le : n ≤ limit = grind (arith, nat_tests) in
    (p.1, omega (arith, e))

spelled_so : (b : ℕ) (bs : List ℕ) (k : ℕ) → k ≤ 4294967295 → (b ≡ 48 → length bs ≡ 0) → digits_after 0 (b ∷ bs) ≡ Some k → decimal k ≡ b ∷ bs
spelled_so b bs k le first h =
    let d = digits_read 0 (b ∷ bs) k h in
    ap decimal d.0 ∙ decimal-digits_value own (b ∷ bs) d.1 (omega arith) (λ e. omega (arith, first e)) (omega (arith, d.0))

natural_back : (xs : List ℕ) (k : ℕ) → k ≤ 4294967295 → natural_of xs ≡ Some k → decimal k ≡ xs
natural_back [] k le h = cc
natural_back (b ∷ []) k le h = spelled_so b [] k le (λ _. refl) h
natural_back (b ∷ c ∷ bs) k le h =
    let p = past (eqb b 48) (digits_after 0 (b ∷ c ∷ bs)) k h in
    spelled_so b (c ∷ bs) k le (λ e. absurd (eqb-false b 48 p.0 e)) p.1

positive-some : (o : Option ℕ) (z : ℤ) → positive o ≡ Some z → (n : ℕ) × ((o ≡ Some n) × (pos n ≡ z))
positive-some None z h = let w : ◌≡◌ {A = ℕ} 0 1 = cc in absurd (omega arith)
positive-some (Some n) z h = (n, (refl, same_Some _ _ h))

negative-some : (o : Option ℕ) (z : ℤ) → negative o ≡ Some z → (n : ℕ) × ((o ≡ Some n) × ((n ≡ 0 → ⊥) × (neg_ℤ (pos n) ≡ z)))
negative-some None z h = let w : ◌≡◌ {A = ℕ} 0 1 = cc in absurd (omega arith)
negative-some (Some n) z h = let p = past (eqb n 0) (Some (neg_ℤ (pos n))) z h in (n, (refl, (eqb-false n 0 p.0, same_Some _ _ p.1)))

minus_back : (n : ℕ) (xs : List ℕ) (z : ℤ) → (n ≡ 0 → ⊥) → decimal n ≡ xs → neg_ℤ (pos n) ≡ z → signed_decimal z ≡ 45 ∷ xs
minus_back zero xs z apart e h = absurd (apart refl)
minus_back (suc n) xs z apart e h = ap signed_decimal (sym h) ∙ ap (λ ys. 45 ∷ ys) e

pub number_back : (xs : List ℕ) (z : ℤ) → number_of xs ≡ Some z → signed_decimal z ≡ xs
number_back [] z h = let w : ◌≡◌ {A = ℕ} 0 1 = cc in absurd (omega arith)
number_back (b ∷ bs) z h = ⊎_elim
    (λ l. let p = negative-some _ z l.1 in
    let m = at_most_lem 2147483648 (natural_of bs) p.0 p.1.0 in
    minus_back p.0 bs z p.1.1.0 (natural_back bs p.0 (omega (arith, m.1)) m.0) p.1.1.1 ∙ ap (λ c. c ∷ bs) (sym (eqb-true b 45 l.0)))
    (λ r. let p = positive-some _ z r.1 in
    let m = at_most_lem 2147483647 (natural_of (b ∷ bs)) p.0 p.1.0 in
    ap signed_decimal (sym p.1.1) ∙ natural_back (b ∷ bs) p.0 (omega (arith, m.1)) m.0)
    (either (eqb b 45) _ _ z h)

fifteen : (z : ℤ) (k : ℕ) → to_fifteen z ≡ Some k → z ≡ pos k
fifteen (pos n) k h = ap pos (same_Some _ _ (at_most_lem 15 (Some n) k h).0)
fifteen (negsuc n) k h = let w : ◌≡◌ {A = ℕ} 0 1 = cc in absurd (omega arith)

pub action_back : (xs : List ℕ) (k : ℕ) → action_of xs ≡ Some k → decimal k ≡ xs
action_back xs k h =
    let p = bind-some (number_of xs) to_fifteen k h in
    ap signed_decimal (sym (fifteen p.0 k p.1.1)) ∙ number_back xs p.0 p.1.0

pub name_back : (xs : List ℕ) (x : Name) → name_of xs ≡ Some x → x ≡ xs
name_back xs x h =
    let p = held (is_word true xs) (name_for xs) x h in
    let q = past (ltb 24 (length xs)) _ x p.1 in
    sym (same_Some _ _ q.1)

pub text_back : (xs : List ℕ) (x : Text) → text_of xs ≡ Some x → x ≡ xs
text_back xs x h =
    let p = held (is_text xs) (text_for xs) x h in
    let q = past (ltb 16 (length xs)) _ x p.1 in
    sym (same_Some _ _ q.1)

-- one word of a chain of words
pub choice : {A : Type 0} (word : A → List ℕ) (t : Bool) (i : A) (r : Option A) (o : A) (xs : List ℕ) → (t ≡ true → xs ≡ word i) → (r ≡ Some o → xs ≡ word o) → cond t (Some i) r ≡ Some o → xs ≡ word o
choice word true i r o xs f g h = f refl ∙ ap word (same_Some _ _ h)
choice word false i r o xs f g h = g h

pub no_choice : {A : Type 0} (word : A → List ℕ) (o : A) (xs : List ℕ) → ◌≡◌ {A = Option A} None (Some o) → xs ≡ word o
no_choice word o xs h = cc

algorithm_back : (xs : List ℕ) (o : Algorithm) → algorithm_named xs ≡ Some o → xs ≡ algorithm_word o
algorithm_back xs o =
    let one = λ (i : Algorithm). choice algorithm_word (bytes_eq xs (algorithm_word i)) i in
    one a.PermitOverrides _ o xs (same xs _) (one a.DenyOverrides _ o xs (same xs _) (one a.DenyUnlessPermit _ o xs (same xs _) (one a.PermitUnlessDeny _ o xs (same xs _)
    (one a.FirstApplicable _ o xs (same xs _) (one a.OneApplicable _ o xs (same xs _) (one a.WeakConsensus _ o xs (same xs _) (one a.StrongConsensus _ o xs (same xs _) (no_choice algorithm_word o xs))))))))

strategy_back : (xs : List ℕ) (o : Strategy) → strategy_named xs ≡ Some o → xs ≡ strategy_word o
strategy_back xs o =
    let one = λ (i : Strategy). choice strategy_word (bytes_eq xs (strategy_word i)) i in
    one s.All _ o xs (same xs _) (one s.Greedy _ o xs (same xs _) (no_choice strategy_word o xs))

-- parts joined by a separator
abbrev pub join : ℕ → List (List ℕ) → List ℕ
join b [] = []
join b (p ∷ []) = p
join b (p ∷ q ∷ ps) = p ++ b ∷ join b (q ∷ ps)

join-onto : (b x : ℕ) (ps : List (List ℕ)) → join b (onto x ps) ≡ x ∷ join b ps
join-onto b x [] = refl
join-onto b x (p ∷ []) = refl
join-onto b x (p ∷ q ∷ ps) = refl

join_step : (b x : ℕ) (xs : List ℕ) (ps : List (List ℕ)) (t : Bool) → (t ≡ true → x ≡ b) → (q : List ℕ) (qs : List (List ℕ)) → ps ≡ q ∷ qs → join b ps ≡ xs → join b (cond t ([] ∷ ps) (onto x ps)) ≡ x ∷ xs
join_step b x xs ps true f q qs e h = ap (λ rs. join b ([] ∷ rs)) e ∙ ap (λ rs. b ∷ join b rs) (sym e) ∙ (λ i. sym (f refl) i ∷ h i)
join_step b x xs ps false f q qs e h = join-onto b x ps ∙ ap (λ ys. x ∷ ys) h

-- the parts joined again
pub parts-back : (b : ℕ) (xs : List ℕ) → join b (parts b xs) ≡ xs
parts-back b [] = refl
parts-back b (x ∷ xs) = let s = some-part b xs in join_step b x xs (parts b xs) (eqb x b) (eqb-true x b) s.0 s.1.0 s.1.1 (parts-back b xs)

pub cut_back : (b : ℕ) (xs : List ℕ) (p : List ℕ × List ℕ) → cut_of b xs ≡ Some p → p.0 ++ b ∷ p.1 ≡ xs
cut_back b xs p h =
    let s = some-part b p.1 in
    ap (λ y. p.0 ++ b ∷ y) (sym (parts-back b p.1) ∙ ap (join b) s.1.1) ∙ ap (λ rs. join b (p.0 ∷ rs)) (sym s.1.1) ∙ ap (join b) (sym (parts-some b xs p h)) ∙ parts-back b xs

pub combining_back : (xs : List ℕ) (c : Combining) → combining_of xs ≡ Some c → combining_word c ≡ xs
combining_back xs c h =
    let p = bind-some (cut_of 46 xs) _ c h in
    let q = bind-some (algorithm_named p.0.0) _ c p.1.1 in
    let r = each-some (λ t. record { algorithm = q.0; strategy = t }) (strategy_named p.0.1) c q.1.1 in
    ap combining_word (sym r.1.1) ∙ (λ i. sym (algorithm_back p.0.0 q.0 q.1.0) i ++ 46 ∷ sym (strategy_back p.0.1 r.0 r.1.0) i) ∙ cut_back 46 xs p.0 p.1.0

six-parts : (ps : List (List ℕ)) (f : Six) → six_of ps ≡ Some f → ps ≡ f.kind ∷ f.a ∷ f.b ∷ f.c ∷ f.d ∷ f.e ∷ []
six-parts [] f h = cc
six-parts (k ∷ []) f h = cc
six-parts (k ∷ a ∷ []) f h = cc
six-parts (k ∷ a ∷ b ∷ []) f h = cc
six-parts (k ∷ a ∷ b ∷ c ∷ []) f h = cc
six-parts (k ∷ a ∷ b ∷ c ∷ d ∷ []) f h = cc
six-parts (k ∷ a ∷ b ∷ c ∷ d ∷ e ∷ []) f h = ap (λ (g : Six). g.kind ∷ g.a ∷ g.b ∷ g.c ∷ g.d ∷ g.e ∷ []) (same_Some _ _ h)
six-parts (k ∷ a ∷ b ∷ c ∷ d ∷ e ∷ g ∷ gs) f h = cc

-- six fields joined by spaces
pub fields_back : (xs : List ℕ) (f : Six) → six_of (parts 32 xs) ≡ Some f → join 32 (f.kind ∷ f.a ∷ f.b ∷ f.c ∷ f.d ∷ f.e ∷ []) ≡ xs
fields_back xs f h = ap (join 32) (sym (six-parts (parts 32 xs) f h)) ∙ parts-back 32 xs
