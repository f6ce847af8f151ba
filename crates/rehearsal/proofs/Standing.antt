-- Two books that differ in their files alone, of which the second has every set visiting all its children.
use Rattle.std.proofs.Common.{◌≡◌, ℕ, zero, suc, true, List, [], ◌∷◌, map, length, take, Some, None, Ok, Err, Option, Result, refl, sym, ap, ◌∙◌, subst}
use Rattle.std.specs.Prelude.{is_ok}
use Rattle.std.specs.List.{AllZip}
use Rattle.refusals.specs.Results.{bind_r}
use Rattle.refusals.specs.declared.place.Rejection.{Rejection}
use Rattle.policy.specs.declared.line.Line.{Line}
use Rattle.policy.specs.Check.{check_of}
use Rattle.combining.specs.Combined.{Response}
use Rattle.combining.specs.Fewer.{Fewer}
use Rattle.combining.proofs.Fewer.{fewer_refl}
use Rattle.trees.specs.declared.duty.Duty.{Duty}
use Rattle.trees.specs.Expressions.{Map}
use Rattle.trees.specs.Policies.{respond}
use Rattle.trees.specs.Parts.{policy_of}
use Rattle.trees.specs.AllVisited.{all_visited}
use Rattle.trees.proofs.Greedy.{fewer_all}
use Rattle.variants.specs.VisitingAll.{file_visiting_all}
use Rattle.variants.proofs.Visiting.{variant_accepted, variant_length, variant_policy, variant_refused}
use Rattle.compiling.specs.Compiled.{compiles}
use Rattle.services.specs.declared.service.Reply.{Reply}
use Rattle.services.specs.Meaning.{Meaning}
use Rattle.enforcement.specs.declared.bias.Bias.{Bias}
use Rattle.gate.specs.Book.{Book, new_book, policy_in, accepted_lines, load_answer, fitted_book, after}
use Rattle.runs.specs.declared.call.Answer.{Answer}
use Rattle.runs.specs.declared.call.Answer.TheVariants.{Fitted, Decided, Seen}
use Rattle.runs.specs.declared.call.Call.{Call}
use Rattle.runs.specs.declared.call.Call.TheVariants as call
use Rattle.runs.specs.Requests.{Request, fit, read, decide, quick, enforce, next, book_answer, request_of, as_given}
use Rattle.runs.specs.Pages.{Page, Pages, none, page, book_after, answers_on}
use Rattle.rehearsal.specs.Beside.{Alike, FewerWaits, Beside}

-- over every map the first file's policy has the response of the second's, none or some duties omitted
abbrev FewerOver : List ℕ → List ℕ → Type 0
FewerOver f h = (m : Map) → Fewer (respond m (policy_in f)) (respond m (policy_in h))

-- so has an accepted file beside its variant
fewer_over : (f : List ℕ) (ls : List Line) → check_of f ≡ Ok ls → FewerOver f (file_visiting_all f)
fewer_over f ls e m =
    let p : policy_in f ≡ policy_of ls = ap (λ r. policy_of (accepted_lines r)) e in
    let q : policy_in (file_visiting_all f) ≡ all_visited (policy_of ls) = ap (λ r. policy_of (accepted_lines r)) (variant_accepted f ls e) ∙ variant_policy ls in
    subst (λ x. Fewer (respond m x) (respond m (policy_in (file_visiting_all f)))) (sym p)
    (subst (λ x. Fewer (respond m (policy_of ls)) (respond m x)) (sym q) (fewer_all m (policy_of ls)))

-- a file is accepted and its conditions have places where that is so of its variant
record SameLoad (n : ℕ) (f : List ℕ) : Type 0 where
  answer : load_answer n (file_visiting_all f) ≡ load_answer n f
  fewer : is_ok (load_answer n f) ≡ true → FewerOver f (file_visiting_all f)

same_load_by : (n : ℕ) (f : List ℕ) (r : Result (List Line) Rejection) → check_of f ≡ r → SameLoad n f
same_load_by n f (Ok ls) e = record {
  answer =
      ap (λ r. bind_r r (λ xs. compiles n (length xs))) (variant_accepted f ls e) ∙ ap (compiles n) (variant_length ls)
      ∙ sym (ap (λ r. bind_r r (λ xs. compiles n (length xs))) e);
  fewer = λ h. fewer_over f ls e;
}
same_load_by n f (Err x) e = record {
  answer = ap (load_answer n) (variant_refused f x e);
  fewer = λ h. subst (λ g. FewerOver f g) (sym (variant_refused f x e)) (λ m. fewer_refl (respond m (policy_in f)));
}

same_load : (n : ℕ) (f : List ℕ) → SameLoad n f
same_load n f = same_load_by n f (check_of f) refl

-- a call beside the same call with its file's variant
data Varies : Request → Request → Type 0 where
  file : (f : List ℕ) → Varies (fit f) (fit (file_visiting_all f))
  source : (m : Map) → Varies (read m) (read m)
  decides : Varies decide decide
  quicks : Varies quick quick
  enforces : Varies enforce enforce

data AllVary : List Request → List Request → Type 0 where
  end : AllVary [] []
  then : {q r : Request} {qs rs : List Request} → Varies q r → AllVary qs rs → AllVary (q ∷ qs) (r ∷ rs)

varies : {S : Type 0} (means : S → Map) (c : Call S) → Varies (request_of as_given means c) (request_of file_visiting_all means c)
varies means (call.Fit f) = file f.now
varies means (call.Read s) = source (means s.now)
varies means call.Decide = decides
varies means call.Quick = quicks
varies means call.Enforce = enforces

all_vary : {S : Type 0} (means : S → Map) (calls : List (Call S)) → AllVary (map (request_of as_given means) calls) (map (request_of file_visiting_all means) calls)
all_vary means [] = end
all_vary means (c ∷ cs) = then (varies means c) (all_vary means cs)

abbrev book : Bias → ℕ → Option (List ℕ) → Option Map → Option (Response Duty) → Book
book bias n p m r = record { bias = bias; places = n; policy = p; readings = m; response = r }

-- two books by what they hold
data Like (bias : Bias) (n : ℕ) : Book → Book → Type 0 where
  empty : Like bias n (book bias n None None None) (book bias n None None None)
  fitted : {f h : List ℕ} → FewerOver f h → Like bias n (book bias n (Some f) None None) (book bias n (Some h) None None)
  seen : {f h : List ℕ} (m : Map) → FewerOver f h → Like bias n (book bias n (Some f) (Some m) None) (book bias n (Some h) (Some m) None)
  waiting : {f h : List ℕ} (m : Map) (r s : Response Duty) → FewerOver f h → Fewer r s → Like bias n (book bias n (Some f) (Some m) (Some r)) (book bias n (Some h) (Some m) (Some s))

like_fewer : {bias : Bias} {n : ℕ} {b c : Book} → Like bias n b c → FewerWaits b.response c.response
like_fewer empty = tt
like_fewer (fitted v) = tt
like_fewer (seen m v) = tt
like_fewer (waiting m r s v e) = e

-- a file, where no response waits

fit_like : {bias : Bias} {n : ℕ} (f h : List ℕ) (x : Result (Unit {0}) Rejection) (b c : Book) → (is_ok x ≡ true → FewerOver f h) → Like bias n b c → Like bias n (after x b (λ _. fitted_book bias n f)) (after x c (λ _. fitted_book bias n h))
fit_like f h (Ok u) b c v like = fitted (v refl)
fit_like f h (Err e) b c v like = like

load_like : {bias : Bias} {n : ℕ} (f : List ℕ) (b c : Book) → Like bias n b c → Like bias n (after (load_answer n f) b (λ _. fitted_book bias n f)) (after (load_answer n (file_visiting_all f)) c (λ _. fitted_book bias n (file_visiting_all f)))
load_like {bias} {n} f b c like =
    let s = same_load n f in
    subst (λ x. Like bias n (after (load_answer n f) b (λ _. fitted_book bias n f)) (after x c (λ _. fitted_book bias n (file_visiting_all f)))) (sym s.answer)
    (fit_like f (file_visiting_all f) (load_answer n f) b c s.fewer like)

load_alike : (n : ℕ) (f : List ℕ) → Alike (Fitted (load_answer n f)) (Fitted (load_answer n (file_visiting_all f)))
load_alike n f = ap Fitted (same_load n f).answer

-- each call keeps the two books alike
like_next : {bias : Bias} {n : ℕ} {b c : Book} {q r : Request} → Like bias n b c → Varies q r → Like bias n (next b q) (next c r)
like_next empty (file f) = load_like f _ _ empty
like_next (fitted v) (file f) = load_like f _ _ (fitted v)
like_next (seen m v) (file f) = load_like f _ _ (seen m v)
like_next (waiting m r s v e) (file f) = waiting m r s v e
like_next empty (source k) = empty
like_next (fitted v) (source k) = seen k v
like_next (seen m v) (source k) = seen k v
like_next (waiting m r s v e) (source k) = waiting m r s v e
like_next empty decides = empty
like_next (fitted v) decides = fitted v
like_next (seen m v) decides = waiting m _ _ v (v m)
like_next (waiting m r s v e) decides = waiting m r s v e
like_next empty quicks = empty
like_next (fitted v) quicks = fitted v
like_next (seen m v) quicks = seen m v
like_next (waiting m r s v e) quicks = waiting m r s v e
like_next empty enforces = empty
like_next (fitted v) enforces = fitted v
like_next (seen m v) enforces = seen m v
like_next (waiting m r s v e) enforces = seen m v

-- and is answered alike by them, whatever the services reply
like_answers : {bias : Bias} {n : ℕ} {b c : Book} {q r : Request} → Like bias n b c → Varies q r → (us vs : List Reply) → Alike (book_answer b q us) (book_answer c r vs)
like_answers {n} empty (file f) us vs = load_alike n f
like_answers {n} (fitted v) (file f) us vs = load_alike n f
like_answers {n} (seen m v) (file f) us vs = load_alike n f
like_answers (waiting m r s v e) (file f) us vs = refl
like_answers empty (source k) us vs = refl
like_answers (fitted v) (source k) us vs = refl
like_answers (seen m v) (source k) us vs = refl
like_answers (waiting m r s v e) (source k) us vs = refl
like_answers empty decides us vs = refl
like_answers (fitted v) decides us vs = refl
like_answers (seen m v) decides us vs = ap (λ d. Decided (Ok d)) (sym (v m).decision)
like_answers (waiting m r s v e) decides us vs = refl
like_answers empty quicks us vs = refl
like_answers (fitted v) quicks us vs = refl
like_answers (seen m v) quicks us vs = ap (λ d. Seen (Ok d)) (sym (v m).decision)
like_answers (waiting m r s v e) quicks us vs = ap (λ d. Seen (Ok d)) (sym (v m).decision)
like_answers empty enforces us vs = (_, refl, refl)
like_answers (fitted v) enforces us vs = (_, refl, refl)
like_answers (seen m v) enforces us vs = (_, refl, refl)
like_answers (waiting m r s v e) enforces us vs = (_, refl, refl)

module _ {V W : Type 0} (m : Meaning V) (k : Meaning W) {bias : Bias} {n : ℕ} where
  alike : {qs rs : List Request} → AllVary qs rs → (b c : Book) (s : V) (t : W) {ps : List (Page V)} {os : List (Page W)} → Like bias n b c → Pages m b s qs ps → Pages k c t rs os → AllZip Alike (answers_on ps) (answers_on os)
  alike end b c s t like none none = tt
  alike (then x more) b c s t like (page _ p turn rest) (page _ o other others) =
      (rw (turn.answered, other.answered) (like_answers like x p.replies o.replies), alike more _ _ _ _ (like_next like x) rest others)

fewer : {bias : Bias} {n : ℕ} {qs rs : List Request} → AllVary qs rs → (b c : Book) → Like bias n b c → (i : ℕ) → FewerWaits (book_after b (take i qs)).response (book_after c (take i rs)).response
fewer end b c like zero = like_fewer like
fewer end b c like (suc i) = like_fewer like
fewer (then x more) b c like zero = like_fewer like
fewer (then x more) b c like (suc i) = fewer more _ _ (like_next like x) i

module _ {S V W : Type 0} (means : S → Map) (m : Meaning V) (k : Meaning W) (bias : Bias) (n : ℕ) (calls : List (Call S)) where
  pub beside : (s : V) (t : W) (ps : List (Page V)) (os : List (Page W)) (ys zs : List Answer)
      → Pages m (new_book bias n) s (map (request_of as_given means) calls) ps → Pages k (new_book bias n) t (map (request_of file_visiting_all means) calls) os
      → ys ≡ answers_on ps → zs ≡ answers_on os
      → Beside bias n (map (request_of as_given means) calls) (map (request_of file_visiting_all means) calls) ys zs
  beside s t ps os ys zs one other e h =
      let v = all_vary means calls in
      record { alike = rw (e, h) (alike m k v _ _ _ _ empty one other); fewer = fewer v _ _ empty }

-- a file that is not accepted is its own variant
own_variant_by : (f : List ℕ) (r : Result (List Line) Rejection) → check_of f ≡ r → (is_ok r ≡ true → ⊥) → file_visiting_all f ≡ f
own_variant_by f (Ok ls) e n = absurd (n refl)
own_variant_by f (Err x) e n = variant_refused f x e

pub own_variant : (f : List ℕ) → (is_ok (check_of f) ≡ true → ⊥) → file_visiting_all f ≡ f
own_variant f n = own_variant_by f (check_of f) refl n
