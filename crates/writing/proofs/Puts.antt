-- Bytes put one part after the other.
use Rattle.std.proofs.Common.{◌≡◌, ℕ, ◌+◌, ◌<◌, ◌≤◌, List, [], ◌∷◌, ◌++◌, length, get_or, take, drop, Ok, sym, refl, ap, ◌∙◌, subst, append_assoc, arith, length-append}
use borrow.Rule.Slice.PartMut.{put_mid}
use Rattle.std.specs.List.{flat_map}
use Rattle.std.proofs.lemmas.List.{take_more, drop-drop, flat_map_more}
use Rattle.std.proofs.lemmas.List.Concat.{length-flat_map}
use Rattle.std.proofs.lemmas.List.Sums.{sum_by_more_le}
use Rattle.std.proofs.lemmas.Slice.{take-put_mid, drop-put_mid}
use Rattle.writing.specs.Put.{Puts}
use Rattle.writing.specs.Written.{Written}

module _ {d e s : List ℕ} {at m : ℕ} (p : Puts d at s e m) where
  middle : e ≡ put_mid at (length s) d s
  middle = p.bytes ∙ (λ i. take at d ++ (s ++ drop (p.next i) d)) ∙ ap (λ r. take at d ++ (s ++ r)) (sym (drop-drop (length s) at d))

  before : at ≤ length d
  before = omega (arith, p.next, p.within)

  -- what stands before the place where it ends, and from a later place on
  front : take m e ≡ take at d ++ s
  front = ap (take m) middle ∙ take-put_mid at (length s) d s m p.next before

  rest : (n : ℕ) → m ≤ n → drop n e ≡ drop n d
  rest n h = ap (drop n) middle ∙ drop-put_mid at (length s) d s n (omega (arith, p.next, h)) before refl

pub both : {d e f s t : List ℕ} {at m n : ℕ} → Puts d at s e m → Puts e m t f n → Puts d at (s ++ t) f n
both {d = d} {s = s} {t = t} {at = at} {n = n} p q = record {
  next = simp length-append (omega (arith, p.next, q.next));
  within = omega (arith, q.within, p.len);
  len = q.len ∙ p.len;
  bytes =
      q.bytes ∙ (λ i. front p i ++ (t ++ rest p n (omega (arith, q.next)) i)) ∙ append_assoc (take at d) s (t ++ drop n d)
      ∙ ap (λ r. take at d ++ r) (sym (append_assoc s t (drop n d)));
}

pub alike : {d e s t : List ℕ} {at n : ℕ} → s ≡ t → Puts d at s e n → Puts d at t e n
alike {d = d} {e = e} {at = at} {n = n} h p = subst (λ s. Puts d at s e n) h p

-- what was put at the start of a buffer is what its front shows
pub shown : {d e s : List ℕ} {n : ℕ} → Puts d 0 s e n → take n e ≡ s
shown p = front p

pub written : {d e s : List ℕ} {n : ℕ} → Puts d 0 s e n → Written s d e (Ok n)
written {d = d} {s = s} {n = n} p =
    let end : n ≡ length s = omega (arith, p.next) in
    (end, omega (arith, end, p.within), p.bytes ∙ ap (λ k. s ++ drop k d) end)

-- a loop that puts f of each member of xs after s, where i members are put and x is the next
module _ {A : Type 0} (f : A → List ℕ) (xs : List A) (i : ℕ) (x : A) (lt : i < length xs) (is : x ≡ get_or xs i x) (s : List ℕ) {d e : List ℕ} {start at : ℕ} (p : Puts d start (s ++ flat_map f (take i xs)) e at) where
  pub room : at + length (f x) ≤ start + length (s ++ flat_map f xs)
  room =
      let h = sum_by_more_le (λ y. length (f y)) xs i x lt in
      omega (arith, h, ap (λ y. length (f y)) is, p.next, length-append s (flat_map f (take i xs)), length-append s (flat_map f xs), length-flat_map f (take i xs), length-flat_map f xs)

  pub one_more : {g : List ℕ} {n : ℕ} → Puts e at (f x) g n → Puts d start (s ++ flat_map f (take (i + 1) xs)) g n
  one_more q =
      let more = take_more xs i x lt ∙ ap (λ y. take i xs ++ y ∷ []) (sym is) in
      alike (flat_map_more f s (take i xs) x ∙ ap (λ ys. s ++ flat_map f ys) (sym more)) (both p q)
