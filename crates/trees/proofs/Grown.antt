-- The part of a line, by the parts of the lines that it names.
use Rattle.std.proofs.Common.{◌≡◌, ℕ, zero, suc, ◌+◌, ◌-◌, ◌<◌, ◌≤◌, true, false, List, [], ◌∷◌, ◌++◌, length, get_or, Some, None, Option, sym, refl, ap, ◌∙◌, subst, add-zero, arith, length-append}
use Rattle.std.proofs.lemmas.List.{get_or_append_left, get_or_push, length_push}
use Rattle.std.specs.Cmp.{first_so, second_so}
use Rattle.std.proofs.lemmas.Bool.Decides.{nat_tests}
use Rattle.policy.specs.declared.line.Line.{Line}
use Rattle.policy.specs.declared.line.Line.TheVariants as l
use Rattle.policy.specs.declared.line.Family.{Family}
use Rattle.policy.specs.Lines.{line_at, Reference, references, may_name}
use Rattle.policy.specs.Tree.{is_sound, all_sound, Above}
use Rattle.trees.specs.Expressions.{Expression}
use Rattle.trees.specs.Parts.{Part, no_part, part_at, duties_at, part_for, parts_after, parts_of}

-- every reference is to a line above n
abbrev pub below : ℕ → List Reference → Type 0
below n [] = Unit {0}
below n (r ∷ rs) = (0 < r.line) × (r.line < n) × below n rs

pub sound_below : (ls : List Line) (n : ℕ) (rs : List Reference) → all_sound ls n rs ≡ true → below n rs
sound_below ls n [] h = tt
sound_below ls n (r ∷ rs) h =
    let s : is_sound ls n r ≡ true = first_so (is_sound ls n r) (all_sound ls n rs) h in
    let lo : 0 < r.line = grind (arith, nat_tests) in
    let hi : r.line < n = grind (arith, nat_tests) in
    (lo, hi, sound_below ls n rs (second_so (is_sound ls n r) (all_sound ls n rs) h))

pub below-append : (n : ℕ) (rs ss : List Reference) → below n (rs ++ ss) → below n rs × below n ss
below-append n [] ss h = (tt, h)
below-append n (r ∷ rs) ss h = let b = below-append n rs ss h.2 in ((h.0, h.1, b.0), b.1)

module _ (leaf : ℕ → List ℕ → Expression) where
  -- later lines leave the parts of the earlier ones
  pub kept : (ps : List Part) (ls : List Line) (i : ℕ) → i < length ps → part_at (parts_after leaf ps ls) i ≡ part_at ps i
  kept ps [] i h = refl
  kept ps (x ∷ ls) i h =
      let more : i < length (ps ++ part_for leaf (length ps) ps x ∷ []) = simp length-append (omega arith) in
      kept (ps ++ part_for leaf (length ps) ps x ∷ []) ls i more ∙ get_or_append_left ps _ no_part i h

  abbrev Agree : ℕ → List Part → List Part → Type 0
  Agree n ps us = (i : ℕ) → i < n → part_at us i ≡ part_at ps i

  duties_alike : (ps us : List Part) (n : ℕ) (f : Family) → Agree n ps us → (o : Option ℕ) → below n (may_name f o) → duties_at us o ≡ duties_at ps o
  duties_alike ps us n f e None h = refl
  duties_alike ps us n f e (Some k) h = rw (e k h.1)

  -- a line has the same part among any parts that agree on the lines that it names
  alike : (ps us : List Part) (n : ℕ) (x : Line) → below n (references x) → Agree n ps us → part_for leaf n us x ≡ part_for leaf n ps x
  alike ps us n (l.Truth b) h e = refl
  alike ps us n (l.Attribute x) h e = refl
  alike ps us n (l.Number z) h e = refl
  alike ps us n (l.Text x) h e = refl
  alike ps us n (l.Not j) h e = rw (e j h.1)
  alike ps us n (l.Binary o j k) h e = cc (e j h.1, e k h.2.1)
  alike ps us n (l.Duty f a x o) h e = cc (e x h.1, duties_alike ps us n _ e o h.2)
  alike ps us n (l.Item p None) h e = rw (e p h.1)
  alike ps us n (l.Item p (Some k)) h e = cc (e p h.1, e k h.2.1)
  alike ps us n (l.Rule f x o) h e = cc (e x h.1, duties_alike ps us n _ e o h.2)
  alike ps us n (l.Set c x y p d) h e =
      let b = below-append n (may_name _ p) (may_name _ d) h.2.2 in
      cc (e x h.1, e y h.2.1, duties_alike ps us n _ e p b.0, duties_alike ps us n _ e d b.1)

  at : (ps : List Part) (ls : List Line) → ((i : ℕ) → i < length ls → below (length ps + i) (references (get_or ls i (l.Truth false)))) → (i : ℕ) → i < length ls → part_at (parts_after leaf ps ls) (length ps + i) ≡ part_for leaf (length ps + i) (parts_after leaf ps ls) (get_or ls i (l.Truth false))
  at ps [] o i h = absurd (omega arith)
  at ps (x ∷ ls) o zero h =
      let us : List Part = parts_after leaf (ps ++ part_for leaf (length ps) ps x ∷ []) ls in
      let long : length (ps ++ part_for leaf (length ps) ps x ∷ []) ≡ length ps + 1 = length_push ps (part_for leaf (length ps) ps x) in
      let r : below (length ps) (references x) = rw add-zero at (o 0 h) in
      let first : part_at us (length ps) ≡ part_for leaf (length ps) ps x = kept (ps ++ part_for leaf (length ps) ps x ∷ []) ls (length ps) (omega arith) ∙ get_or_push ps (part_for leaf (length ps) ps x) no_part (length ps) refl in
      let same : part_for leaf (length ps) us x ≡ part_for leaf (length ps) ps x = alike ps us (length ps) x r (λ j k. kept ps (x ∷ ls) j k) in
      rw add-zero (first ∙ sym same)
  at ps (x ∷ ls) o (suc i) h =
      let long : length (ps ++ part_for leaf (length ps) ps x ∷ []) ≡ length ps + 1 = length_push ps (part_for leaf (length ps) ps x) in
      let place : length (ps ++ part_for leaf (length ps) ps x ∷ []) + i ≡ length ps + suc i = omega arith in
      let deep = at (ps ++ part_for leaf (length ps) ps x ∷ []) ls
      (λ j k. let e : length (ps ++ part_for leaf (length ps) ps x ∷ []) + j ≡ length ps + suc j = omega arith in rw e (o (suc j) (omega arith))) i (omega arith) in
      rw place at deep

  module _ (ls : List Line) (a : Above ls) (n : ℕ) (lo : 0 < n) (hi : n ≤ length ls) {x : Line} (f : line_at ls n ≡ x) where
    -- what line n names stands above it
    pub rests : below n (references x)
    rests = let P : Line → Type 0 = λ y. below n (references y) in subst P f (sound_below ls n (references (line_at ls n)) (a n lo hi))

    pub grown : part_at (parts_of leaf ls) n ≡ part_for leaf n (parts_of leaf ls) x
    unfolding parts_of
    grown =
        let e : 1 + (n - 1) ≡ n = omega arith in
        let g = at (no_part ∷ []) ls (λ i k. let s : 1 + i ≡ suc i = omega arith in sound_below ls (1 + i) (references (get_or ls i (l.Truth false))) (ap (λ j. all_sound ls (1 + i) (references (get_or ls j (l.Truth false)))) (omega arith) ∙ a (1 + i) (omega arith) (omega arith))) (n - 1) (omega arith) in
        (rw e at g) ∙ ap (part_for leaf n (parts_after leaf (no_part ∷ []) ls)) f
