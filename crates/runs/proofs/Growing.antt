-- One more call after those played so far.
use Rattle.std.proofs.Common.{◌≡◌, ℕ, ◌+◌, List, [], ◌∷◌, ◌++◌, map, take, refl, sym, ap, ◌∙◌, subst}
use Rattle.services.specs.Meaning.{Meaning}
use Rattle.gate.specs.declared.gate.Gate.{Gate}
use Rattle.gate.specs.Book.{Book}
use Rattle.gate.specs.Shown.{Shows}
use Rattle.runs.specs.declared.call.Answer.{Answer}
use Rattle.runs.specs.Requests.{Request, next}
use Rattle.runs.specs.Pages.{Turn, Page, Pages, none, page, Played, book_after, gate_after, service_after, answers_on}

book_after_push : (b : Book) (qs : List Request) (q : Request) → book_after b (qs ++ q ∷ []) ≡ next (book_after b qs) q
book_after_push b [] q = refl
book_after_push b (x ∷ xs) q = book_after_push (next b x) xs q

map_push : {A B : Type 0} (f : A → B) (xs : List A) (x : A) → map f (xs ++ x ∷ []) ≡ map f xs ++ f x ∷ []
map_push f [] x = refl
map_push f (y ∷ ys) x = ap (λ r. f y ∷ r) (map_push f ys x)

module _ {V : Type 0} (m : Meaning V) where
  service_after_push : (s : V) (ps : List (Page V)) (p : Page V) → service_after s (ps ++ p ∷ []) ≡ p.service
  service_after_push s [] p = refl
  service_after_push s (x ∷ xs) p = service_after_push x.service xs p

  gate_after_push : (g : Gate) (ps : List (Page V)) (p : Page V) → gate_after g (ps ++ p ∷ []) ≡ p.gate
  gate_after_push g [] p = refl
  gate_after_push g (x ∷ xs) p = gate_after_push x.gate xs p

  answers_on_push : (ps : List (Page V)) (p : Page V) → answers_on (ps ++ p ∷ []) ≡ answers_on ps ++ p.answer ∷ []
  answers_on_push [] p = refl
  answers_on_push (x ∷ xs) p = ap (λ r. x.answer ∷ r) (answers_on_push xs p)

  pages_push : {b : Book} {s : V} {qs : List Request} {ps : List (Page V)} (q : Request) (p : Page V) → Pages m b s qs ps → Turn m (book_after b qs) (service_after s ps) q p → Pages m b s (qs ++ q ∷ []) (ps ++ p ∷ [])
  pages_push q p none t = page q p t none
  pages_push q p (page x y e r) t = page x y e (pages_push q p r t)

  played_push : (b : Book) (g : Gate) (s : V) (qs : List Request) (q : Request) (h : Gate) (t : V) (ys : List Answer) → Played m b g s qs h t ys
      → (p : Page V) (zs : List Answer) → Turn m (book_after b qs) t q p → zs ≡ ys ++ p.answer ∷ [] → Played m b g s (qs ++ q ∷ []) p.gate p.service zs
  played_push b g s qs q h t ys played p zs turn e = record {
    pages = played.pages ++ p ∷ [];
    each = pages_push q p played.each (subst (λ x. Turn m (book_after b qs) x q p) played.service turn);
    gate = sym (gate_after_push g played.pages p);
    service = sym (service_after_push s played.pages p);
    gives = e ∙ ap (λ x. x ++ p.answer ∷ []) played.gives ∙ sym (answers_on_push played.pages p);
  }

  -- what is so after the first i calls is so after one more
  pub played_more : {C : Type 0} (f : C → Request) (b : Book) (g : Gate) (s : V) (calls : List C) (i : ℕ) (call : C) → take (i + 1) calls ≡ take i calls ++ call ∷ []
      → (h : Gate) (t : V) (ys : List Answer) → Played m b g s (map f (take i calls)) h t ys
      → (p : Page V) (zs : List Answer) → Turn m (book_after b (map f (take i calls))) t (f call) p → zs ≡ ys ++ p.answer ∷ []
      → Shows p.gate (book_after b (map f (take (i + 1) calls))) × Played m b g s (map f (take (i + 1) calls)) p.gate p.service zs
  played_more f b g s calls i call is h t ys played p zs turn e =
      let k : map f (take (i + 1) calls) ≡ map f (take i calls) ++ f call ∷ [] = ap (map f) is ∙ map_push f (take i calls) call in
      let P : List Request → Type 0 = λ qs. Shows p.gate (book_after b qs) × Played m b g s qs p.gate p.service zs in
      subst P (sym k) (subst (λ x. Shows p.gate x) (sym (book_after_push b (map f (take i calls)) (f call))) turn.shown, played_push b g s _ (f call) h t ys played p zs turn e)
