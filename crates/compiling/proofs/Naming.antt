-- That no two lines name the same item, and that a given algorithm stays.
use Rattle.std.proofs.Common.{◌≡◌, ℕ, zero, suc, ◌+◌, ◌-◌, ◌<◌, ◌≤◌, true, false, List, [], ◌∷◌, ◌++◌, length, slice_index_or, slice_set, refl, sym, ap, ◌∙◌, subst, inl, inr, ◌⊎◌, arith}
use Rattle.std.specs.Prelude.{Some, None}
use Rattle.std.proofs.lemmas.List.{get_or-set_same, get_or-set_other}
use Rattle.std.proofs.lemmas.Bool.{cases_eq, cases_lt}
use Rattle.std.proofs.lemmas.Bool.Decides.{nat_tests}
use Rattle.spelling.specs.declared.algorithm.Algorithm.{Algorithm}
use Rattle.spelling.specs.declared.algorithm.Algorithm.TheVariants.{PermitOverrides}
use Rattle.policy.specs.declared.line.Line.{Line}
use Rattle.policy.specs.declared.line.Line.TheVariants as l
use Rattle.policy.specs.declared.line.Family.{Family}
use Rattle.policy.specs.declared.line.Family.TheVariants as f
use Rattle.policy.specs.Lines.{line_at, Reference, names, may_name, references}
use Rattle.policy.specs.Tree.{all_sound, times, namings, Above, Once}
use Rattle.compiling.proofs.Sound.{sound_of}
use Rattle.compiling.specs.Handed.{item_named, given_by, algorithm_at, Given}

-- two lines that both name line k
namings_of : (k : ℕ) (ls : List Line) (i : ℕ) → i < length ls → times k (references (slice_index_or ls i (l.Truth false))) ≤ namings k ls
namings_of k [] i h = absurd (omega arith)
namings_of k (x ∷ ls) zero h = omega arith
namings_of k (x ∷ ls) (suc i) h = let e = namings_of k ls i (omega arith) in omega (arith, e)

namings_two : (k : ℕ) (ls : List Line) (i j : ℕ) → i < j → j < length ls
    → times k (references (slice_index_or ls i (l.Truth false))) + times k (references (slice_index_or ls j (l.Truth false))) ≤ namings k ls
namings_two k [] i j h u = absurd (omega arith)
namings_two k (x ∷ ls) i zero h u = absurd (omega arith)
namings_two k (x ∷ ls) zero (suc j) h u = let e = namings_of k ls j (omega arith) in omega (arith, e)
namings_two k (x ∷ ls) (suc i) (suc j) h u = let e = namings_two k ls i j (omega arith) (omega arith) in omega (arith, e)

times_more : (k : ℕ) (rs ss : List Reference) → times k ss ≤ times k (rs ++ ss)
times_more k [] ss = omega arith
times_more k (r ∷ rs) ss = let e = times_more k rs ss in omega (arith, e)

times_first : (k : ℕ) (g : Family) (rs : List Reference) → 1 ≤ times k (names g k ++ rs)
times_first k g rs = grind (arith, nat_tests)

-- a line that names an item names it in a field
named_in : (n : ℕ) (x : Line) → (item_named n x ≡ n → ⊥) → 1 ≤ times (item_named n x) (references x)
named_in n (l.Truth b) h = absurd (h refl)
named_in n (l.Attribute x) h = absurd (h refl)
named_in n (l.Number z) h = absurd (h refl)
named_in n (l.Text x) h = absurd (h refl)
named_in n (l.Not j) h = absurd (h refl)
named_in n (l.Binary o j k) h = absurd (h refl)
named_in n (l.Duty g a e d) h = absurd (h refl)
named_in n (l.Item p None) h = absurd (h refl)
named_in n (l.Item p (Some k)) h = let a = times_more k (names f.Policy p) (names f.Item k) in let b = times_first k f.Item [] in omega (arith, a, b)
named_in n (l.Rule e t d) h = absurd (h refl)
named_in n (l.Set c t i p d) h = let a = times_more i (names f.Expression t) (names f.Item i ++ (may_name f.Duty p ++ may_name f.Duty d)) in let b = times_first i f.Item (may_name f.Duty p ++ may_name f.Duty d) in omega (arith, a, b)

-- a line either names no item, and then gives nothing on, or it names one above
item_is : (ls : List Line) (n : ℕ) (x : Line) → all_sound ls n (references x) ≡ true → ((item_named n x ≡ n) × ((a : Algorithm) → given_by a x ≡ a)) ⊎ ((0 < item_named n x) × (item_named n x < n))
item_is ls n (l.Truth b) h = inl (refl, λ a. refl)
item_is ls n (l.Attribute x) h = inl (refl, λ a. refl)
item_is ls n (l.Number z) h = inl (refl, λ a. refl)
item_is ls n (l.Text x) h = inl (refl, λ a. refl)
item_is ls n (l.Not j) h = inl (refl, λ a. refl)
item_is ls n (l.Binary o j k) h = inl (refl, λ a. refl)
item_is ls n (l.Duty g a e d) h = inl (refl, λ a. refl)
item_is ls n (l.Item p None) h = inl (refl, λ a. refl)
item_is ls n (l.Item p (Some k)) h = let s = (sound_of ls n (references (l.Item p (Some k))) h).1.0 in inr (s.0, s.1)
item_is ls n (l.Rule e t d) h = inl (refl, λ a. refl)
item_is ls n (l.Set c t i p d) h = let s = (sound_of ls n (references (l.Set c t i p d)) h).1.0 in inr (s.0, s.1)

-- a list in which a place is set to what it holds
same_set : (hs : List Algorithm) (t : ℕ) (a : Algorithm) → t < length hs → a ≡ algorithm_at hs t → (k : ℕ) → algorithm_at (slice_set hs t a) k ≡ algorithm_at hs k
same_set hs t a h e k = elim (cases_eq k t) [
  | inl q ↦ ap (algorithm_at (slice_set hs t a)) q ∙ get_or-set_same hs t a PermitOverrides h ∙ e ∙ ap (algorithm_at hs) (sym q)
  | inr q ↦ get_or-set_other hs t k a PermitOverrides q
]

module _ (ls : List Line) (above : Above ls) (once : Once ls) (hs : List Algorithm) (m : ℕ) (lo : 0 < m) (hi : m ≤ length ls) (long : length ls < length hs)
    (given : (n : ℕ) → m < n → n ≤ length ls → Given hs ls n) where
  abbrev x : Line
  x = line_at ls m

  abbrev t : ℕ
  t = item_named m x

  abbrev a : Algorithm
  a = given_by (algorithm_at hs m) x

  -- the algorithms with that which line m gives on
  abbrev gs : List Algorithm
  gs = slice_set hs t a

  -- where line m names no item nothing changes
  unchanged : t ≡ m → ((a : Algorithm) → given_by a x ≡ a) → (n : ℕ) → m ≤ n → n ≤ length ls → Given gs ls n
  unchanged e s n h u =
      let same : (k : ℕ) → algorithm_at gs k ≡ algorithm_at hs k = same_set hs t a (omega (arith, e, hi, long)) (s _ ∙ ap (algorithm_at hs) (sym e)) in
      elim (cases_lt m n) [
        | inl v ↦ same (item_named n (line_at ls n)) ∙ given n v u ∙ ap (λ b. given_by b (line_at ls n)) (sym (same n))
        | inr v ↦ let q : n ≡ m = omega (arith, h, v) in subst (Given gs ls) (sym q) (ap (algorithm_at gs) e ∙ sym (s _))
      ]

  -- no line below names the item that line m names
  apart : t < m → 0 < t → (n : ℕ) → m < n → n ≤ length ls → item_named n (line_at ls n) ≡ t → ⊥
  apart h z n v u e =
      let i : m - 1 < n - 1 = omega (arith, lo, v) in
      let j : n - 1 < length ls = omega (arith, u, v) in
      let first = named_in m x (λ q. let r : t < t = subst (λ k. t < k) (sym q) h in omega (arith, r)) in
      let second = named_in n (line_at ls n) (λ q. let r : t ≡ n = sym e ∙ q in omega (arith, r, h, v)) in
      let k : 1 ≤ times t (references (line_at ls n)) = subst (λ k. 1 ≤ times k (references (line_at ls n))) e second in
      let both = namings_two t ls (m - 1) (n - 1) i j in
      let one = once t z (omega (arith, h, hi)) in
      omega (arith, first, k, both, one)

  changed : t < m → 0 < t → (n : ℕ) → m ≤ n → n ≤ length ls → Given gs ls n
  changed h z n w u =
      let other : (k : ℕ) → (k ≡ t → ⊥) → algorithm_at gs k ≡ algorithm_at hs k = λ k q. get_or-set_other hs t k a PermitOverrides q in
      elim (cases_lt m n) [
        | inl v ↦
            other (item_named n (line_at ls n)) (apart h z n v u) ∙ given n v u ∙ ap (λ b. given_by b (line_at ls n)) (sym (other n (λ q. omega (arith, q, h, v))))
        | inr v ↦
            let q : n ≡ m = omega (arith, w, v) in
            subst (Given gs ls) (sym q) (get_or-set_same hs t a PermitOverrides (omega (arith, h, hi, long)) ∙ ap (λ b. given_by b x) (sym (other m (λ q. omega (arith, q, h)))))
      ]

  given_more : (n : ℕ) → m ≤ n → n ≤ length ls → Given gs ls n
  given_more n h u = elim (item_is ls m x (above m lo hi)) [
    | inl s ↦ unchanged s.0 s.1 n h u
    | inr s ↦ changed s.1 s.0 n h u
  ]

  -- by what the code takes for line m, its item and its algorithm
  pub given_next : (y : Line) (k : ℕ) (b : Algorithm) → y ≡ x → k ≡ item_named m y → b ≡ given_by (algorithm_at hs m) y → (n : ℕ) → m ≤ n → n ≤ length ls → Given (slice_set hs k b) ls n
  given_next y k b e f g n h u =
      let P : ℕ → Algorithm → Type 0 = λ k b. Given (slice_set hs k b) ls n in
      subst (λ b. P k b) (sym (g ∙ ap (given_by (algorithm_at hs m)) e)) (subst (λ k. P k a) (sym (f ∙ ap (item_named m) e)) (given_more n h u))
