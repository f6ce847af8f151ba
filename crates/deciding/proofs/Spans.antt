-- Kept responses, and the spans of duties that they stand for.
use Rattle.std.proofs.Common.{◌≡◌, ℕ, ◌+◌, ◌-◌, ◌<◌, ◌≤◌, Bool, true, false, cond, ◌⊎◌, List, [], ◌∷◌, ◌++◌, map, length, get_or, take, drop, set, vec_items, vec_len, Vec, sym, refl, ap, ◌∙◌, subst, inl, inr, append_assoc, arith, length-append, length-drop, drop-cons, add-one, get_or-set_other, get_or-set_same}
use lib.Seq.{drop-append_seam}
use denote.Enum.Bare.{sameb}
use Rattle.std.proofs.lemmas.Bool.{cases_eq}
use Rattle.std.proofs.lemmas.List.{map-append, take-append-le, drop-append-le, length-map, length-take-le, take_all, take-map, drop-map, take_more, take-append-drop, get_or-drop, get_or_append_left}
use Rattle.std.proofs.lemmas.List.Elements.{All-nil, All-push}
use Rattle.combining.specs.declared.decision.Decision.{Decision}
use Rattle.combining.specs.contracts.decision.Decision.{the_type}
use Rattle.combining.specs.Decisions.{same_decision}
use Rattle.combining.specs.Merging.{sameb-same_decision}
use Rattle.combining.specs.Combined.{Response, joined}
use Rattle.trees.specs.declared.duty.Duty.{Duty}
use Rattle.deciding.specs.declared.known.Known.{Known}
use Rattle.deciding.specs.declared.kept.Kept.{Kept}
use Rattle.deciding.specs.declared.taken.Taken.{Taken}
use Rattle.deciding.specs.Room.{Responds}
use Rattle.deciding.specs.Known.{due_at, read_dues, response_at}
use Rattle.deciding.specs.Kept.{response_in, Means, no_response, unset, KeptTo, all_within, MeanAll, duties_by}

pub kept_less : (n k : ℕ) (known : Known) (ks : List Kept) (os : List Duty) → k ≤ n → KeptTo n known ks os → KeptTo k known ks os
kept_less n k known ks os h t j lo b = t j lo (omega arith)

-- one more child
pub mean_more : (ks : List Kept) (k : Kept) (os : List Duty) (rs : List (Response Duty)) (r : Response Duty) → MeanAll ks os rs → Means k os r → MeanAll (ks ++ k ∷ []) os (rs ++ r ∷ [])
mean_more ks k os rs r a m = record {
  are = map-append (response_in os) ks (k ∷ []) ∙ ap (λ xs. xs ++ response_in os k ∷ []) a.are ∙ ap (λ x. rs ++ x ∷ []) m.is;
  within = All-push (λ (j : Kept). j.start + j.count ≤ length os) ks k a.within m.within;
}

-- a span stays as the duties grow
span_kept : {D : Type 0} (s n : ℕ) (os xs : List D) → s + n ≤ length os → take n (drop s (os ++ xs)) ≡ take n (drop s os)
span_kept s n os xs h =
    let l : length (drop s os) ≡ length os - s = length-drop s os in
    ap (take n) (drop-append-le s os xs (omega (arith, h))) ∙ take-append-le n (drop s os) xs (omega (arith, l, h))

pub response_kept : {D : Type 0} (k : Kept) (os xs ws : List D) → ws ≡ os ++ xs → k.start + k.count ≤ length os → response_in ws k ≡ response_in os k
response_kept {D} k os xs ws e h =
    let with : List D → Response D = λ ds. record { decision = k.decision; duties = ds } in
    ap (λ zs. response_in zs k) e ∙ ap with (span_kept k.start k.count os xs h)

pub means_kept : (k : Kept) (os xs ws : List Duty) (r : Response Duty) → ws ≡ os ++ xs → Means k os r → Means k ws r
means_kept k os xs ws r e t =
    let l : length (os ++ xs) ≡ length os + length xs = length-append os xs in
    let w = t.within in
    let g = ap length e in
    record { is = response_kept k os xs ws e t.within ∙ t.is; within = omega (arith, l, w, g) }

pub kept-grown : (n : ℕ) (known : Known) (ks : List Kept) (os xs ws : List Duty) → ws ≡ os ++ xs → KeptTo n known ks os → KeptTo n known ks ws
kept-grown n known ks os xs ws e t k lo b = means_kept (get_or ks k unset) os xs ws (response_at known k) e (t k lo b)

-- line n's response is kept too
pub kept_more : (n : ℕ) (known : Known) (ks : List Kept) (os : List Duty) (k : Kept) → n < length ks → Means k os (response_at known n)
    → KeptTo n known ks os → KeptTo (n + 1) known (set ks n k) os
kept_more n known ks os k h e t j lo b = by (cases_eq j n)
  where
    by : (j ≡ n) ⊎ (j ≡ n → ⊥) → Means (get_or (set ks n k) j unset) os (response_at known j)
    by (inl q) =
        let P : Kept → Type 0 = λ x. Means x os (response_at known j) in
        let Q : ℕ → Type 0 = λ i. Means k os (response_at known i) in
        subst P (sym (ap (λ i. get_or (set ks n k) i unset) q ∙ get_or-set_same ks n k unset h)) (subst Q (sym q) e)
    by (inr q) =
        let P : Kept → Type 0 = λ x. Means x os (response_at known j) in
        subst P (sym (get_or-set_other ks n j k unset q)) (t j lo (omega (arith, q)))

pub none_means : (os : List Duty) → Means no_response os (response_in [] no_response)
none_means os = record { is = refl; within = omega arith }

pub mean_as : {ks js : List Kept} {os : List Duty} {rs qs : List (Response Duty)} → js ≡ ks → qs ≡ rs → MeanAll ks os rs → MeanAll js os qs
mean_as {ks} {js} {os} {rs} {qs} e f m =
    let P : List Kept → Type 0 = λ xs. MeanAll xs os rs in
    let Q : List (Response Duty) → Type 0 = λ xs. MeanAll js os xs in
    subst Q (sym f) (subst P (sym e) m)

pub part_more : {X : Type 0} (s j : ℕ) (ks : List X) (d : X) → s + j < length ks → take (j + 1) (drop s ks) ≡ take j (drop s ks) ++ get_or ks (s + j) d ∷ []
part_more s j ks d h =
    let l : length (drop s ks) ≡ length ks - s = length-drop s ks in
    take_more (drop s ks) j d (omega (arith, l, h)) ∙ ap (λ x. take j (drop s ks) ++ x ∷ []) (get_or-drop s ks j d)

pub copy_more : (s p : ℕ) (xs ws : List ℕ) (y : ℕ) → s ≤ p → p < length xs → ws ≡ xs ++ take (p - s) (drop s xs) → y ≡ get_or ws p y → ws ++ y ∷ [] ≡ xs ++ take (p + 1 - s) (drop s xs)
copy_more s p xs ws y b h e f =
    let j : ℕ = p - s in
    let q : p ≡ s + j = omega arith in
    let k : j + 1 ≡ p + 1 - s = omega arith in
    let r : s + j < length xs = omega arith in
    let g : y ≡ get_or xs (s + j) y = f ∙ ap (λ t. get_or t p y) e ∙ get_or_append_left xs (take j (drop s xs)) y p h ∙ ap (λ i. get_or xs i y) q in
    ap (λ t. t ++ y ∷ []) e ∙ append_assoc xs (take j (drop s xs)) (y ∷ []) ∙ ap (λ t. xs ++ (take j (drop s xs) ++ t ∷ [])) g
    ∙ ap (λ t. xs ++ t) (sym (part_more s j xs y r)) ∙ ap (λ i. xs ++ take i (drop s xs)) k

pub part_long : {X : Type 0} (s n : ℕ) (ks : List X) → s + n ≤ length ks → length (take n (drop s ks)) ≡ n
part_long s n ks h = let l : length (drop s ks) ≡ length ks - s = length-drop s ks in length-take-le n (drop s ks) (omega (arith, l, h))

-- a list is its first element and the others
pub first_and_others : {X : Type 0} (xs : List X) (d : X) → 0 < length xs → xs ≡ get_or xs 0 d ∷ take (length xs - 1) (drop 1 xs)
first_and_others [] d h = absurd (omega arith)
first_and_others (x ∷ xs) d h = let e : length xs ≤ length (x ∷ xs) - 1 = omega arith in ap (λ ys. x ∷ ys) (sym (take_all (length (x ∷ xs) - 1) xs e))

-- what is taken from the children, one after the other

abbrev pub taken_rest : {D : Type 0} → Taken → ℕ → List D → List D
taken_rest t i os = duties_by t.joins t.decision (map (response_in os) (drop i t.children.now))

-- what is taken from the children before i has been written to os, as ws
pub record Taking (t : Taken) (i : ℕ) (os ws : List ℕ) : Type 0 where
  pub items : ws ++ taken_rest t i os ≡ os ++ taken_rest t 0 os
  pub grown : take (length os) ws ≡ os

taken_cons : {D : Type 0} (j : Bool) (d : Decision) (r : Response D) (rs : List (Response D)) → duties_by j d (r ∷ rs) ≡ cond (same_decision d r.decision) (cond j (r.duties ++ duties_by j d rs) r.duties) (duties_by j d rs)
taken_cons true d r rs = by (same_decision d r.decision)
  where
    by : (b : Bool) → cond b r.duties [] ++ joined d rs ≡ cond b (r.duties ++ joined d rs) (joined d rs)
    by true = refl
    by false = refl
taken_cons false d r rs = refl

-- what the derived comparison of two decisions answers
pub same_as : (x b : Bool) (d e : Decision) → x ≡ sameb the_type d e → x ≡ b → same_decision d e ≡ b
same_as x b d e q s = sym (sameb-same_decision d e) ∙ sym q ∙ s

module _ (t : Taken) (i n : ℕ) (os ws : List ℕ) (h : i < length t.children.now) (a : Taking t i os ws) (l : length os ≡ n) (within : all_within n t.children.now) where
  abbrev child : Kept
  child = get_or t.children.now i unset

  abbrev span : {D : Type 0} → List D → List D
  span ns = take child.count (drop child.start ns)

  rest_is : taken_rest t i os ≡ cond (same_decision t.decision child.decision) (cond t.joins (span os ++ taken_rest t (i + 1) os) (span os)) (taken_rest t (i + 1) os)
  rest_is =
      let e : drop i t.children.now ≡ child ∷ drop (i + 1) t.children.now = rw (add-one, drop-cons t.children.now i unset) in
      ap (λ ks. duties_by t.joins t.decision (map (response_in os) ks)) e ∙ taken_cons t.joins t.decision (response_in os child) (map (response_in os) (drop (i + 1) t.children.now))

  pub taking_other : (vs : List ℕ) → same_decision t.decision child.decision ≡ false → vs ≡ ws → Taking t (i + 1) os vs
  taking_other vs s f = record {
    items = ap (λ xs. xs ++ taken_rest t (i + 1) os) f ∙ ap (λ xs. ws ++ xs) (sym (rest_is ∙ ap (λ b. cond b (cond t.joins (span os ++ taken_rest t (i + 1) os) (span os)) (taken_rest t (i + 1) os)) s)) ∙ a.items;
    grown = ap (take (length os)) f ∙ a.grown;
  }

  parts : ws ≡ os ++ drop (length os) ws
  parts = sym (take-append-drop (length os) ws) ∙ ap (λ xs. xs ++ drop (length os) ws) a.grown

  longer : length os ≤ length ws
  longer = let q = ap length parts in let n = length-append os (drop (length os) ws) in omega (arith, q, n)

  pub span_within : child.start + child.count ≤ length ws
  span_within = let w = within i unset h in let m = longer in omega (arith, w, m, l)

  module _ (s : same_decision t.decision child.decision ≡ true) where
    span_old : child.start + child.count ≤ length os
    span_old = let w = within i unset h in omega (arith, w, l)

    taken_is : (j : Bool) → t.joins ≡ j → taken_rest t i os ≡ cond j (span os ++ taken_rest t (i + 1) os) (span os)
    taken_is j e = rest_is ∙ ap (λ b. cond b (cond t.joins (span os ++ taken_rest t (i + 1) os) (span os)) (taken_rest t (i + 1) os)) s ∙ ap (λ b. cond b (span os ++ taken_rest t (i + 1) os) (span os)) e

    span_same : span ws ≡ span os
    span_same = ap span parts ∙ span_kept child.start child.count os (drop (length os) ws) span_old

    pub taking_joined : (vs : List ℕ) → t.joins ≡ true → vs ≡ ws ++ span ws → Taking t (i + 1) os vs
    taking_joined vs e f =
        record {
          items = ap (λ xs. xs ++ taken_rest t (i + 1) os) (f ∙ ap (λ xs. ws ++ xs) span_same) ∙ append_assoc ws (span os) (taken_rest t (i + 1) os) ∙ ap (λ xs. ws ++ xs) (sym (taken_is true e)) ∙ a.items;
          grown = ap (take (length os)) f ∙ take-append-le (length os) ws (span ws) longer ∙ a.grown;
        }

    pub taking_first : (vs : List ℕ) → t.joins ≡ false → vs ≡ ws ++ span ws → vs ≡ os ++ taken_rest t 0 os
    taking_first vs e f = f ∙ ap (λ xs. ws ++ xs) (span_same ∙ sym (taken_is false e)) ∙ a.items

    pub span_fits : length ws + child.count ≤ length (os ++ taken_rest t 0 os)
    span_fits =
        let n = ap length a.items in
        let q : length (ws ++ taken_rest t i os) ≡ length ws + length (taken_rest t i os) = length-append ws (taken_rest t i os) in
        let p = part_long child.start child.count os span_old in
        let m = by t.joins refl in
        omega (arith, n, q, p, m)
      where
        by : (j : Bool) → t.joins ≡ j → length (span os) ≤ length (taken_rest t i os)
        by true e = let k = ap length (taken_is true e) in let l : length (span os ++ taken_rest t (i + 1) os) ≡ length (span os) + length (taken_rest t (i + 1) os) = length-append (span os) (taken_rest t (i + 1) os) in omega (arith, k, l)
        by false e = let k = ap length (taken_is false e) in omega (arith, k)

-- numbers may be read as duties before or after they are taken

pub span_read : {A B : Type 0} (f : A → B) (ks : List A) (k : Kept) → map f (take k.count (drop k.start ks)) ≡ take k.count (drop k.start (map f ks))
span_read f ks k = sym (take-map f k.count (drop k.start ks)) ∙ ap (take k.count) (sym (drop-map f k.start ks))

pub taken-read : {A B : Type 0} (f : A → B) (j : Bool) (d : Decision) (os : List A) (ks : List Kept) → map f (duties_by j d (map (response_in os) ks)) ≡ duties_by j d (map (response_in (map f os)) ks)
taken-read f true d os [] = refl
taken-read f false d os [] = refl
taken-read {A} {B} f j d os (k ∷ ks) =
    ap (map f) (taken_cons j d (response_in os k) (map (response_in os) ks)) ∙ by (same_decision d k.decision) j _ _ (span_read f os k) (taken-read f j d os ks)
    ∙ sym (taken_cons j d (response_in (map f os) k) (map (response_in (map f os)) ks))
  where
    by : (b i : Bool) (xs zs : List A) {ys ws : List B} → map f xs ≡ ys → map f zs ≡ ws → map f (cond b (cond i (xs ++ zs) xs) zs) ≡ cond b (cond i (ys ++ ws) ys) ws
    by true true xs zs e g = map-append f xs zs ∙ cc
    by true false xs zs e g = e
    by false i xs zs e g = g

pub mean_none : (ks : List Kept) (os : List Duty) → ks ≡ [] → MeanAll ks os []
mean_none ks os e = mean_as e refl (record { are = refl; within = All-nil (λ (j : Kept). j.start + j.count ≤ length os) })

part_new : (os xs ws : List Duty) (s n : ℕ) → ws ≡ os ++ xs → s ≡ length os → n ≡ length xs → take n (drop s ws) ≡ xs
part_new os xs ws s n e hs hn =
    ap (λ t. take n (drop s t)) e ∙ ap (λ t. take n (drop t (os ++ xs))) hs ∙ ap (take n) (drop-append_seam os xs) ∙ take_all n xs (omega (arith, hn))

-- what was just added is a response's span
pub means_new : {Z : Type 0} (known : Known) (v w : Vec ℕ Z) (r : Response Duty) (d : Decision) (s e : ℕ) → length (vec_items v) ≡ vec_len v → length (vec_items w) ≡ vec_len w
    → s ≡ vec_len v → e ≡ vec_len w → Responds known v w d r → Means (record { decision = d; start = s; count = e - s }) (read_dues known (vec_items w)) r
means_new known v w r d s e nv nw hs he a =
    let lv : length (read_dues known (vec_items v)) ≡ length (vec_items v) = length-map (vec_items v) (due_at known) in
    let lw : length (read_dues known (vec_items w)) ≡ length (vec_items w) = length-map (vec_items w) (due_at known) in
    let l = a.adds.len in
    let R : Decision → List Duty → Response Duty = λ x ds. record { decision = x; duties = ds } in
    record {
      is = ap (λ ds. R d ds) (part_new (read_dues known (vec_items v)) r.duties (read_dues known (vec_items w)) s (e - s) a.adds.items (omega (arith, lv, nv, hs)) (omega (arith, l, hs, he))) ∙ ap (λ x. R x r.duties) a.decides;
      within = omega (arith, lw, nw, l, hs, he);
    }

-- line n's response is kept, after those above it
pub kept_next : {Z : Type 0} (known : Known) (n i : ℕ) (ks js : List Kept) (v w : Vec ℕ Z) (d : Decision) (s e : ℕ) → js ≡ ks → i ≡ n → n < length ks → length (vec_items v) ≡ vec_len v → length (vec_items w) ≡ vec_len w
    → s ≡ vec_len v → e ≡ vec_len w → Responds known v w d (response_at known n) → KeptTo n known ks (read_dues known (vec_items v))
    → KeptTo (n + 1) known (set js i (record { decision = d; start = s; count = e - s })) (read_dues known (vec_items w))
kept_next known n i ks js v w d s e ek ei h nv nw hs he r t =
    let k : Kept = record { decision = d; start = s; count = e - s } in
    let P : List Kept → Type 0 = λ xs. KeptTo (n + 1) known xs (read_dues known (vec_items w)) in
    subst P (sym (ap (λ xs. set xs i k) ek ∙ ap (λ j. set ks j k) ei))
    (kept_more n known ks _ k h (means_new known v w _ d s e nv nw hs he r) (kept-grown n known ks (read_dues known (vec_items v)) _ _ r.adds.items t))

pub means_long : (k : Kept) (os : List Duty) (r : Response Duty) → Means k os r → length r.duties ≡ k.count
means_long k os r t = ap (λ (x : Response Duty). length x.duties) (sym t.is) ∙ part_long k.start k.count os t.within
