-- Line numbers of duties, added one part after the other.
use Rattle.std.proofs.Common.{◌≡◌, ℕ, ◌+◌, List, [], ◌++◌, length, vec_items, vec_len, vec_capacity, Vec, sym, refl, ap, ◌∙◌, subst, append_assoc, arith, length-append}
use Rattle.std.proofs.lemmas.List.{append-nil, map-append, length-map}
use Rattle.combining.specs.declared.decision.Decision.{Decision}
use Rattle.combining.specs.Combined.{Response}
use Rattle.trees.specs.declared.duty.Duty.{Duty}
use Rattle.trees.specs.Policies.{bare}
use Rattle.deciding.specs.declared.known.Known.{Known}
use Rattle.deciding.specs.Known.{due_at, read_dues}
use Rattle.deciding.specs.Room.{Room, Adds, Responds}

module _ {Z : Type 0} (known : Known) where
  pub adds_none : (v : Vec ℕ Z) (xs : List Duty) → xs ≡ [] → Adds known v v xs
  adds_none v xs e =
      let P : List Duty → Type 0 = λ zs. Adds known v v zs in
      subst P (sym e) (record { items = sym (append-nil (read_dues known (vec_items v))); len = omega arith; cap = refl })

  pub adds_both : (u v w : Vec ℕ Z) (xs ys zs : List Duty) → zs ≡ xs ++ ys → Adds known u v xs → Adds known v w ys → Adds known u w zs
  adds_both u v w xs ys zs e a b =
      let l : length (xs ++ ys) ≡ length xs + length ys = length-append xs ys in
      let la = a.len in
      let lb = b.len in
      let P : List Duty → Type 0 = λ ts. Adds known u w ts in
      subst P (sym e) (record {
        items = b.items ∙ ap (λ ts. ts ++ ys) a.items ∙ append_assoc (read_dues known (vec_items u)) xs ys;
        len = omega arith;
        cap = b.cap ∙ a.cap;
      })

  pub room_second : (u v : Vec ℕ Z) (xs ys zs : List Duty) → zs ≡ xs ++ ys → Adds known u v xs → Room u zs → Room v ys
  room_second u v xs ys zs e a r =
      let l : length (xs ++ ys) ≡ length xs + length ys = length-append xs ys in
      let k : length zs ≡ length (xs ++ ys) = ap length e in
      let la = a.len in
      let ca = a.cap in
      omega arith

  -- line numbers added are their duties added
  pub adds_read : (v w : Vec ℕ Z) (ks : List ℕ) (xs : List Duty) → length (vec_items v) ≡ vec_len v → length (vec_items w) ≡ vec_len w → vec_items w ≡ vec_items v ++ ks → vec_capacity w ≡ vec_capacity v → read_dues known ks ≡ xs → Adds known v w xs
  adds_read v w ks xs lv lw i c e =
      let n : length (read_dues known ks) ≡ length ks = length-map ks (due_at known) in
      let l : length (vec_items v ++ ks) ≡ length (vec_items v) + length ks = length-append (vec_items v) ks in
      let k = ap length e in
      let j = ap length i in
      record { items = ap (read_dues known) i ∙ map-append (due_at known) (vec_items v) ks ∙ ap (λ t. read_dues known (vec_items v) ++ t) e; len = omega (arith, n, k, l, j, lv, lw); cap = c }

  pub responds_as : (u v : Vec ℕ Z) (d : Decision) (r s : Response Duty) → s ≡ r → Responds known u v d r → Responds known u v d s
  responds_as u v d r s e a = let P : Response Duty → Type 0 = λ t. Responds known u v d t in subst P (sym e) a

  pub responds_bare : (v : Vec ℕ Z) (d : Decision) (r : Response Duty) → r ≡ bare d → Responds known v v d r
  responds_bare v d r e = responds_as v v d (bare d) r e (record { decides = refl; adds = adds_none v [] refl })

module _ {Z : Type 0} where
  pub room_as : (u : Vec ℕ Z) (xs zs : List Duty) → zs ≡ xs → Room u zs → Room u xs
  room_as u xs zs e a = let P : List Duty → Type 0 = λ ts. Room u ts in subst P e a

  pub room_first : (u : Vec ℕ Z) (xs ys zs : List Duty) → zs ≡ xs ++ ys → Room u zs → Room u xs
  room_first u xs ys zs e r =
      let l : length (xs ++ ys) ≡ length xs + length ys = length-append xs ys in
      let k : length zs ≡ length (xs ++ ys) = ap length e in
      omega arith
