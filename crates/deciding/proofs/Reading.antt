-- Readings put at the places of their attr lines, from the first line on.
use Rattle.std.proofs.Common.{◌≡◌, ℕ, ◌+◌, ◌-◌, ◌<◌, ◌≤◌, false, List, length, slice_index_or, slice_set, sym, refl, ap, ◌∙◌, inl, inr, arith}
use Rattle.std.proofs.lemmas.Bool.{cases_lt}
use Rattle.std.proofs.lemmas.List.{get_or_default, get_or-set_same, get_or-set_other}
use Rattle.values.specs.declared.value.Value.{Value}
use Rattle.values.specs.declared.value.Value.TheVariants.{Missing as missing}
use Rattle.policy.specs.declared.line.Line.{Line}
use Rattle.policy.specs.declared.line.Line.TheVariants as l
use Rattle.policy.specs.Lines.{line_at}
use Rattle.trees.specs.Expressions.{Map}
use Rattle.trees.specs.Known.{read_at, wanted}

-- the first k lines have read what they want
abbrev pub ReadTo : ℕ → List Line → List Value → Map → Type 0
ReadTo k ls vs m = (n : ℕ) → 0 < n → n ≤ k → read_at vs n ≡ wanted m (line_at ls n) (read_at vs n)

-- a line of another kind has read what it wants, whatever that is
any_value : (m : Map) (x : Line) (v : Value) → ((y : List ℕ) → x ≡ l.Attribute y → ⊥) → v ≡ wanted m x v
any_value m (l.Truth b) v other = refl
any_value m (l.Attribute x) v other = absurd (other x refl)
any_value m (l.Number z) v other = refl
any_value m (l.Text x) v other = refl
any_value m (l.Not j) v other = refl
any_value m (l.Binary o j k) v other = refl
any_value m (l.Duty f a e d) v other = refl
any_value m (l.Item p i) v other = refl
any_value m (l.Rule e t d) v other = refl
any_value m (l.Set c t i p d) v other = refl

module _ (ls : List Line) (vs : List Value) (m : Map) (k : ℕ) (x : Line) (is : x ≡ slice_index_or ls k x) (h : k < length ls) (r : ReadTo k ls vs m) where
  at : (n : ℕ) → n - 1 ≡ k → line_at ls n ≡ x
  at n i = ap (λ j. slice_index_or ls j (l.Truth false)) i ∙ get_or_default ls k (l.Truth false) x h ∙ sym is

  pub other_next : ((y : List ℕ) → x ≡ l.Attribute y → ⊥) → ReadTo (k + 1) ls vs m
  other_next other n lo hi = elim (cases_lt n (k + 1)) [
    | inl h ↦ r n lo (omega (arith, h))
    | inr h ↦ let i : n - 1 ≡ k = omega (arith, h, hi) in any_value m (line_at ls n) (read_at vs n) (λ y q. other y (sym (at n i) ∙ q))
  ]

  pub attribute_next : (name : List ℕ) (v : Value) → x ≡ l.Attribute name → v ≡ m name → k < length vs → ReadTo (k + 1) ls (slice_set vs k v) m
  attribute_next name v a e b n lo hi = elim (cases_lt n (k + 1)) [
    | inl h ↦
        let o : read_at (slice_set vs k v) n ≡ read_at vs n = get_or-set_other vs k (n - 1) v missing (λ q. omega (arith, q, lo, h)) in
        o ∙ r n lo (omega (arith, h)) ∙ ap (wanted m (line_at ls n)) (sym o)
    | inr h ↦
        let i : n - 1 ≡ k = omega (arith, h, hi) in
        let s : read_at (slice_set vs k v) n ≡ v = ap (λ j. slice_index_or (slice_set vs k v) j missing) i ∙ get_or-set_same vs k v missing b in
        s ∙ e ∙ sym (ap (λ y. wanted m y (read_at (slice_set vs k v) n)) (at n i ∙ a))
  ]
