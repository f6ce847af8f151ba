-- One turn of spreading truths over the numbers of a row.
use Rattle.std.proofs.Common.{◌≡◌, ℕ, ◌+◌, ◌<◌, Bool, ◌&&◌, ◌||◌, List, length, slice_set, sym, ap, ◌∙◌, subst, inl, inr, arith}
use Rattle.std.specs.Prelude.{false, not, ◌==◌, nat_lt}
use Rattle.std.proofs.lemmas.List.{get_or-set_same, get_or-set_other, length-set}
use Rattle.std.proofs.lemmas.Bool.{cases_eq}
use Rattle.std.proofs.lemmas.Bool.Decides.{nat_tests}
use Rattle.values.specs.declared.value.Value.{Value}
use Rattle.conditions.specs.declared.places.Places.{Places}
use Rattle.conditions.specs.declared.truth.Truth.{Truth}
use Rattle.conditions.specs.declared.truth.Truth.TheVariants.{Known}
use Rattle.conditions.specs.Places.{Grows, Inside}
use Rattle.conditions.specs.States.{truth_at, AllInside, Only}
use Rattle.conditions.proofs.Growing.{inside_kept, holds_kept}

pub all_kept : {p q : Places} {n : ℕ} → Grows p q n → (ts : List Truth) → AllInside p ts → AllInside q ts
all_kept g ts h t l = inside_kept g (truth_at ts t) (h t l)

pub only-kept : {p q : Places} {n : ℕ} → Grows p q n → (rs : List Value) (ts : List Truth) (s : ℕ) → AllInside p ts → Only p rs ts s → Only q rs ts s
only-kept g rs ts s h o t l = holds_kept g rs (truth_at ts t) (h t l) ∙ o t l

pub only-as : (p : Places) (rs : List Value) (ts : List Truth) {s u : ℕ} → s ≡ u → Only p rs ts s → Only p rs ts u
only-as p rs ts e o = subst (λ x. Only p rs ts x) e o

-- what one number of `into` holds once the numbers below i were spread, where a held before
abbrev pub spread_to : Bool → Bool → ℕ → ℕ → ℕ → ℕ → Bool
spread_to a s d x i t = a || (s && (nat_lt d i && (t == x)))

-- one number more
pub spread_more : (a s : Bool) (d x i y t : ℕ) {u v w : Bool} → (d ≡ i → x ≡ y) → u ≡ spread_to a s d x i t → v ≡ s → w ≡ (i == d) → (u || ((v && w) && (t == y))) ≡ spread_to a s d x (i + 1) t
spread_more a s d x i y t {u} {v} {w} e p q r =
    ap (λ b. b || ((v && w) && (t == y))) p ∙ ap (λ b. spread_to a s d x i t || ((b && w) && (t == y))) q ∙ ap (λ b. spread_to a s d x i t || ((s && b) && (t == y))) r ∙ more a s d x i y t e
  where
    more : (a s : Bool) (d x i y t : ℕ) → (d ≡ i → x ≡ y) → (spread_to a s d x i t || ((s && (i == d)) && (t == y))) ≡ spread_to a s d x (i + 1) t
    more a s d x i y t e = grind (arith, nat_tests)

pub spread_all : (a s : Bool) (d x i t : ℕ) → d < i → spread_to a s d x i t ≡ (a || (s && (t == x)))
spread_all a s d x i t h = grind (arith, nat_tests)

pub spread_none : (a s : Bool) (d x t : ℕ) → a ≡ spread_to a s d x 0 t
spread_none a s d x t = grind (arith, nat_tests)

pub inside_set : {p q : Places} {n : ℕ} → Grows p q n → (ts : List Truth) (y : ℕ) (x : Truth) → y < length ts → AllInside p ts → Inside q x → AllInside q (slice_set ts y x)
inside_set {q = q} g ts y x l h w t u =
    let m = length-set ts y x in
    let v : t < length ts = omega (arith, m, u) in
    elim (cases_eq t y) [
      | inl e ↦ subst (Inside q) (sym (ap (truth_at (slice_set ts y x)) e ∙ get_or-set_same ts y x (Known false) l)) w
      | inr n ↦ subst (Inside q) (sym (get_or-set_other ts y t x (Known false) n)) (inside_kept g (truth_at ts t) (h t v))
    ]

-- one state more, where u held before, and w is that the state before is state i
pub turn_more : (s i t x y : ℕ) {u w : Bool} → (s ≡ i → x ≡ y) → u ≡ ((nat_lt s i || nat_lt 3 s) && (t == x)) → w ≡ (i == s) → (u || (w && (t == y))) ≡ ((nat_lt s (i + 1) || nat_lt 3 s) && (t == x))
turn_more s i t x y {u} {w} e a b = ap (λ u. u || (w && (t == y))) a ∙ ap (λ w. ((nat_lt s i || nat_lt 3 s) && (t == x)) || (w && (t == y))) b ∙ turned s i t x y e
  where
    turned : (s i t x y : ℕ) → (s ≡ i → x ≡ y) → (((nat_lt s i || nat_lt 3 s) && (t == x)) || ((i == s) && (t == y))) ≡ ((nat_lt s (i + 1) || nat_lt 3 s) && (t == x))
    turned s i t x y e = grind (arith, nat_tests)

pub turn-all : (s i t x : ℕ) → s < 5 → i ≡ 4 → ((nat_lt s i || nat_lt 3 s) && (t == x)) ≡ (t == x)
turn-all s i t x h e = grind (arith, nat_tests)

-- one truth more, of which one holds, number x, but for the one that is left out
pub some-more : (x t r : ℕ) {u v : Bool} → u ≡ (nat_lt x t && not (x == r)) → ((t ≡ r → ⊥) → v ≡ (t == x)) → (u || (v && not (t == r))) ≡ (nat_lt x (t + 1) && not (x == r))
some-more x t r {u} {v} h k = elim (cases_eq t r) [
  | inl e ↦ ap (λ b. b || (v && not (t == r))) h ∙ at x t r v e
  | inr n ↦ ap (λ b. b || (v && not (t == r))) h ∙ ap (λ b. (nat_lt x t && not (x == r)) || (b && not (t == r))) (k n) ∙ past x t r n
]
  where
    at : (x t r : ℕ) (v : Bool) → t ≡ r → ((nat_lt x t && not (x == r)) || (v && not (t == r))) ≡ (nat_lt x (t + 1) && not (x == r))
    at x t r v e = grind (arith, nat_tests)

    past : (x t r : ℕ) → (t ≡ r → ⊥) → ((nat_lt x t && not (x == r)) || ((t == x) && not (t == r))) ≡ (nat_lt x (t + 1) && not (x == r))
    past x t r n = grind (arith, nat_tests)

pub none-some : (x t r : ℕ) → x < t → not (nat_lt x t && not (x == r)) ≡ (r == x)
none-some x t r h = grind (arith, nat_tests)
