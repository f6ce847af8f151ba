-- That a set's response under any strategy is that of all children, with none or some duties omitted.
use Rattle.std.proofs.Common.{◌≡◌, ℕ, zero, suc, Bool, true, false, cond, List, [], ◌∷◌, ◌++◌, map, length, take, sym, refl, ap, ◌∙◌, subst, inl, inr, append_assoc, append-nil}
use lib.ListN.{length-map}
use lib.Seq.{take-length}
use Rattle.std.proofs.lemmas.List.{take-map}
use Rattle.spelling.specs.declared.algorithm.Strategy.{Strategy}
use Rattle.spelling.specs.declared.algorithm.Strategy.TheVariants.{All}
use Rattle.combining.specs.declared.decision.Decision.{Decision}
use Rattle.combining.specs.Decisions.{same_decision}
use Rattle.combining.specs.Wording.{Wording, FinalStays}
use Rattle.combining.specs.Combined.{Response, decision_of, visits, taken, joined, first_taken, duties_for, combined}
use Rattle.combining.specs.Fewer.{Omits, Fewer, EachFewer}
use Rattle.combining.proofs.Visits.{visited_decide}

module _ {A : Type 0} where
  pub omits_refl : (xs : List A) → Omits xs xs
  omits_refl [] = tt
  omits_refl (x ∷ xs) = inl (refl, omits_refl xs)

  omits_before : (xs ys zs : List A) → Omits xs zs → Omits xs (ys ++ zs)
  omits_before [] ys zs h = tt
  omits_before (x ∷ xs) [] zs h = h
  omits_before (x ∷ xs) (y ∷ ys) zs h = inr (omits_before (x ∷ xs) ys zs h)

  pub omits_append : (ws xs ys zs : List A) → Omits ws xs → Omits ys zs → Omits (ws ++ ys) (xs ++ zs)
  omits_append [] xs ys zs h k = omits_before ys xs zs k
  omits_append (w ∷ ws) [] ys zs h k = absurd h
  omits_append (w ∷ ws) (x ∷ xs) ys zs (inl h) k = inl (h.0, omits_append ws xs ys zs h.1 k)
  omits_append (w ∷ ws) (x ∷ xs) ys zs (inr h) k = inr (omits_append (w ∷ ws) xs ys zs h k)

module _ {D : Type 0} where
  pub fewer_refl : (r : Response D) → Fewer r r
  fewer_refl r = record { decision = refl; duties = omits_refl r.duties }

  each-decision : (rs qs : List (Response D)) → EachFewer rs qs → map decision_of rs ≡ map decision_of qs
  each-decision [] [] h = refl
  each-decision [] (q ∷ qs) h = absurd h
  each-decision (r ∷ rs) [] h = absurd h
  each-decision (r ∷ rs) (q ∷ qs) h = ap (λ d. d ∷ map decision_of rs) h.0.decision ∙ ap (λ ds. q.decision ∷ ds) (each-decision rs qs h.1)

  -- one of two lists, by a test on the decision of the child r, and so on that of q
  chosen : (d : Decision) (r q : Response D) (xs ys : List D) → Fewer r q → Omits xs ys
      → Omits (cond (same_decision d r.decision) r.duties xs) (cond (same_decision d q.decision) q.duties ys)
  chosen d r q xs ys h o =
      let P : Decision → Type 0 = λ e. Omits (cond (same_decision d r.decision) r.duties xs) (cond (same_decision d e) q.duties ys) in
      subst P h.decision (by (same_decision d r.decision))
    where
      by : (b : Bool) → Omits (cond b r.duties xs) (cond b q.duties ys)
      by true = h.duties
      by false = o

  joined-fewer : (d : Decision) (n : ℕ) (rs qs : List (Response D)) → EachFewer rs qs → Omits (joined d (take n rs)) (joined d qs)
  joined-fewer d zero rs qs h = tt
  joined-fewer d (suc n) [] qs h = tt
  joined-fewer d (suc n) (r ∷ rs) [] h = absurd h
  joined-fewer d (suc n) (r ∷ rs) (q ∷ qs) h =
      omits_append (taken d r) (taken d q) (joined d (take n rs)) (joined d qs) (chosen d r q [] [] h.0 tt) (joined-fewer d n rs qs h.1)

  first_fewer : (d : Decision) (n : ℕ) (rs qs : List (Response D)) → EachFewer rs qs → Omits (first_taken d (take n rs)) (first_taken d qs)
  first_fewer d zero rs qs h = tt
  first_fewer d (suc n) [] qs h = tt
  first_fewer d (suc n) (r ∷ rs) [] h = absurd h
  first_fewer d (suc n) (r ∷ rs) (q ∷ qs) h = chosen d r q (first_taken d (take n rs)) (first_taken d qs) h.0 (first_fewer d n rs qs h.1)

  -- the duties of the first n children against those of all
  duties_fewer : (w : Wording) (d : Decision) (n : ℕ) (rs qs : List (Response D)) → EachFewer rs qs → Omits (duties_for w d (take n rs)) (duties_for w d qs)
  duties_fewer w d n rs qs h = by w.joins
    where
      by : (b : Bool) → Omits (cond b (joined d (take n rs)) (first_taken d (take n rs))) (cond b (joined d qs) (first_taken d qs))
      by true = joined-fewer d n rs qs h
      by false = first_fewer d n rs qs h

  -- under any strategy the decision is the wording over all children
  pub combined-decision : (w : Wording) → FinalStays w → (s : Strategy) (r : Response D) (rs : List (Response D)) → (combined w s r rs).decision ≡ w.decision (map decision_of (r ∷ rs))
  unfolding combined
  combined-decision w law s r rs =
      ap w.decision (sym (take-map decision_of (visits w s (r.decision ∷ []) (map decision_of rs)) (r ∷ rs))) ∙ visited_decide w law s (r.decision ∷ []) (map decision_of rs)

-- the strategy all visits every child
visits-all : (w : Wording) (seen ds : List Decision) → visits w All seen ds ≡ length (seen ++ ds)
visits-all w seen [] = ap length (sym (append-nil seen))
visits-all w seen (d ∷ ds) = visits-all w (seen ++ d ∷ []) ds ∙ ap length (append_assoc seen (d ∷ []) ds)

module _ {D : Type 0} where
  takes_all : (w : Wording) (r : Response D) (rs : List (Response D)) → take (visits w All (r.decision ∷ []) (map decision_of rs)) (r ∷ rs) ≡ r ∷ rs
  takes_all w r rs =
      ap (λ n. take n (r ∷ rs)) (visits-all w (r.decision ∷ []) (map decision_of rs) ∙ length-map (r ∷ rs) decision_of) ∙ take-length (r ∷ rs)

  pub fewer_combined : (w : Wording) → FinalStays w → (s : Strategy) (r q : Response D) (rs qs : List (Response D)) → Fewer r q → EachFewer rs qs → Fewer (combined w s r rs) (combined w All q qs)
  unfolding combined
  fewer_combined w law s r q rs qs h hs =
      let n = visits w s (r.decision ∷ []) (map decision_of rs) in
      let d = (combined w s r rs).decision in
      let e : d ≡ (combined w All q qs).decision = combined-decision w law s r rs ∙ ap w.decision (each-decision (r ∷ rs) (q ∷ qs) (h, hs)) ∙ sym (combined-decision w law All q qs) in
      let P : List (Response D) → Type 0 = λ xs. Omits (duties_for w d (take n (r ∷ rs))) (duties_for w d xs) in
      let Q : Decision → Type 0 = λ x. Omits (duties_for w d (take n (r ∷ rs))) (duties_for w x (take (visits w All (q.decision ∷ []) (map decision_of qs)) (q ∷ qs))) in
      record { decision = e; duties = subst Q e (subst P (sym (takes_all w q qs)) (duties_fewer w d n (r ∷ rs) (q ∷ qs) (h, hs))) }
