-- The law's clauses, from the pages of a list of calls.
use Rattle.std.proofs.Common.{◌≡◌, ℕ, ◌+◌, Bool, true, false, List, [], ◌∷◌, Some, None, Ok, Err, Option, Result, refl, sym, ap, ◌∙◌, subst, arith}
use Rattle.std.specs.Prelude.{cond, is_some}
use Rattle.std.specs.List.{list_any}
use Rattle.refusals.specs.Results.{bind_r}
use Rattle.refusals.specs.declared.place.Rejection.{Rejection}
use Rattle.combining.specs.declared.decision.Decision.{Decision}
use Rattle.combining.specs.declared.decision.Decision.TheVariants.{Permit, Deny, NotApplicable, Indeterminate}
use Rattle.combining.specs.Decisions.{is_permit}
use Rattle.combining.specs.Combined.{Response}
use Rattle.trees.specs.declared.duty.Duty.{Duty}
use Rattle.trees.specs.Expressions.{Map}
use Rattle.services.specs.declared.service.Reply.{Reply}
use Rattle.services.specs.declared.service.Reply.TheVariants.{Done, NotReady}
use Rattle.services.specs.Meaning.{Meaning}
use Rattle.enforcement.specs.declared.bias.Bias.{Bias}
use Rattle.enforcement.specs.declared.bias.Bias.TheVariants.{Base, DenyBiased, PermitBiased}
use Rattle.enforcement.specs.Asked.{Asked, carried, failed, is_must}
use Rattle.enforcement.specs.Asked as asked
use Rattle.enforcement.specs.Settled.{settled}
use Rattle.enforcement.proofs.Counts.{asked-count}
use Rattle.gate.specs.declared.gate.Gate.{Gate}
use Rattle.gate.specs.Book.{Book, new_book, none_waiting, after, enforce_answer, Replies}
use Rattle.gate.specs.Shown.{Shows}
use Rattle.runs.specs.declared.call.Answer.{Answer}
use Rattle.runs.specs.Requests.{Request, fit, read, decide, quick, enforce, next, book_answer}
use Rattle.runs.specs.Pages.{Turn, Page, Pages, none, page, Played, book_after, gate_after, service_after, answers_on}
use Rattle.runs.proofs.Conforming.{no, conforming}
use Rattle.runs.specs.Law.{one_if, decides, enforces, reported, reports, total, permitted, permits, musts, KeptIn, KeptInAll, is_strict, Law}

-- what waits

fit_waits : (r : Option (Response Duty)) (l : Result (Unit {0}) Rejection) (b c : Book) → b.response ≡ r → c.response ≡ None → (after (bind_r (none_waiting r) (λ _. l)) b (λ _. c)).response ≡ r
fit_waits (Some x) l b c e f = e
fit_waits None (Ok u) b c e f = f
fit_waits None (Err x) b c e f = e

abbrev waiting : Option (Response Duty) → ℕ
waiting r = one_if (is_some r)

-- one call changes both sides of the balance alike
turn_balance : (bias : Bias) (places : ℕ) (p : Option (List ℕ)) (m : Option Map) (r : Option (Response Duty)) (q : Request) (replies : List Reply)
    → let b : Book = record { bias = bias; places = places; policy = p; readings = m; response = r } in decides (book_answer b q replies) + waiting r ≡ enforces (book_answer b q replies) + waiting (next b q).response
turn_balance bias places p m r (fit file) replies = ap (λ x. 0 + waiting x) (sym (fit_waits r _ _ _ refl refl))
turn_balance bias places None m r (read k) replies = refl
turn_balance bias places (Some p) m (Some r) (read k) replies = refl
turn_balance bias places (Some p) m None (read k) replies = refl
turn_balance bias places None m r decide replies = refl
turn_balance bias places (Some p) None r decide replies = refl
turn_balance bias places (Some p) (Some m) (Some r) decide replies = refl
turn_balance bias places (Some p) (Some m) None decide replies = refl
turn_balance bias places p m r quick replies = refl
turn_balance bias places p m None enforce replies = refl
turn_balance bias places p m (Some r) enforce replies = refl

-- the bias stays

after_bias : {A : Type 0} (r : Result A Rejection) (b : Book) (f : A → Book) → ((x : A) → (f x).bias ≡ b.bias) → (after r b f).bias ≡ b.bias
after_bias (Ok x) b f h = h x
after_bias (Err e) b f h = refl

next_bias : (b : Book) (q : Request) → (next b q).bias ≡ b.bias
next_bias b (fit file) = after_bias _ b _ (λ x. refl)
next_bias b (read m) = after_bias _ b _ (λ x. refl)
next_bias b decide = after_bias _ b _ (λ x. refl)
next_bias b quick = refl
next_bias b enforce = refl

-- a strict bias permits only where no must failed
strict_permit : (bias : Bias) (d : Decision) (b : Bool) → is_strict bias ≡ true → is_permit (settled bias d b) ≡ true → b ≡ false
strict_permit bias d false s e = refl
strict_permit Base Permit true s e = no e
strict_permit Base Deny true s e = no e
strict_permit Base NotApplicable true s e = no e
strict_permit Base Indeterminate true s e = no e
strict_permit DenyBiased Permit true s e = no e
strict_permit DenyBiased Deny true s e = no e
strict_permit DenyBiased NotApplicable true s e = no e
strict_permit DenyBiased Indeterminate true s e = no e
strict_permit PermitBiased d true s e = no s

-- the last page's gate, whatever stands before the first
at_end : {V : Type 0} (new g : Gate) (ps : List (Page V)) → g ≡ gate_after new ps → g ≡ gate_after g ps
at_end new g [] e = refl
at_end new g (p ∷ ps) e = e

module _ {V : Type 0} (m : Meaning V) where
  balance : {b : Book} {s : V} {qs : List Request} {ps : List (Page V)} → Pages m b s qs ps → total decides (answers_on ps) + waiting b.response ≡ total enforces (answers_on ps) + waiting (book_after b qs).response
  balance none = refl
  balance {b} (page q p t rest) =
      let h = balance rest in
      let k = turn_balance b.bias b.places b.policy b.readings b.response q p.replies in
      let e = ap decides t.answered in
      let f = ap enforces t.answered in
      omega (arith, h, k, e, f)

  replies_count : (bias : Bias) (r : Option (Response Duty)) (s : V) (replies : List Reply) (t : V) → Replies m r s replies t → m.count t ≡ m.count s + reported (enforce_answer bias r replies)
  replies_count bias None s replies t e = let k = ap m.count e.0 in omega (arith, k)
  replies_count bias (Some r) s replies t e = asked-count e

  turn_count : (b : Book) (s : V) (q : Request) (p : Page V) → Turn m b s q p → m.count p.service ≡ m.count s + reports (book_answer b q p.replies)
  turn_count b s (fit file) p t = let k = ap m.count t.heard.0 in omega (arith, k)
  turn_count b s (read k) p t = let k = ap m.count t.heard.0 in omega (arith, k)
  turn_count b s decide p t = let k = ap m.count t.heard.0 in omega (arith, k)
  turn_count b s quick p t = let k = ap m.count t.heard.0 in omega (arith, k)
  turn_count b s enforce p t = replies_count b.bias b.response s p.replies p.service t.heard

  counted : {b : Book} {s : V} {qs : List Request} {ps : List (Page V)} → Pages m b s qs ps → m.count (service_after s ps) ≡ m.count s + total reports (answers_on ps)
  counted none = omega arith
  counted {b} {s} (page q p t rest) =
      let h = counted rest in
      let k = turn_count b s q p t in
      let e = ap reports t.answered in
      omega (arith, h, k, e)

  -- where no must failed, each was carried out
  musts_carried : {s t : V} {ds : List Duty} {rs : List Reply} → Asked m s ds rs t → list_any is_must (failed ds rs) ≡ false → musts (carried ds rs) ≡ musts ds
  musts_carried asked.all h = refl
  musts_carried (asked.next {d = d} {r = Done} did on rest) h = ap (λ x. cond (is_must d) (d ∷ x) x) (musts_carried rest h)
  musts_carried (asked.next {d = d} {r = NotReady} {ds = ds} {rs = rs} did on rest) h = rw on (musts_carried rest (rw on at h))
  musts_carried (asked.last {r = Done} did off) h = no off
  musts_carried (asked.last {d = d} {r = NotReady} did off) h = no (sym (rw off at h))

  turn_kept : (b : Book) (s : V) (q : Request) (p : Page V) → Turn m b s q p → is_strict b.bias ≡ true → KeptIn b.response p
  turn_kept b s (fit file) p t strict h r e = no (sym (ap permits t.answered) ∙ h)
  turn_kept b s (read k) p t strict h r e = no (sym (ap permits t.answered) ∙ h)
  turn_kept b s decide p t strict h r e = no (sym (ap permits t.answered) ∙ h)
  turn_kept b s quick p t strict h r e = no (sym (ap permits t.answered) ∙ h)
  turn_kept b s enforce p t strict h r e =
      let asked : Asked m s r.duties p.replies p.service = subst (λ x. Replies m x s p.replies p.service) e t.heard in
      let permit = sym (ap permits t.answered ∙ ap (λ x. permitted (enforce_answer b.bias x p.replies)) e) ∙ h in
      musts_carried asked (strict_permit b.bias r.decision _ strict permit)

  kept : {b : Book} {s : V} {qs : List Request} {ps : List (Page V)} → Pages m b s qs ps → is_strict b.bias ≡ true → KeptInAll b qs ps
  kept none strict = tt
  kept {b} {s} (page q p t rest) strict = (turn_kept b s q p t strict, kept rest (ap is_strict (next_bias b q) ∙ strict))

  pub law_of : (bias : Bias) (places : ℕ) (s : V) (qs : List Request) (g : Gate) (t : V) (answers : List Answer)
      → (new : Gate) → Shows g (book_after (new_book bias places) qs) → Played m (new_book bias places) new s qs g t answers → Law m bias places s qs g t answers
  law_of bias places s qs g t answers new shows played =
      let h = balance played.each in
      let k = counted played.each in
      let d = ap (total decides) played.gives in
      let e = ap (total enforces) played.gives in
      let r = ap (total reports) played.gives in
      let x = ap m.count played.service in
      record {
        pages = played.pages;
        each = played.each;
        gate = at_end new g played.pages played.gate;
        service = played.service;
        gives = played.gives;
        shown = shows;
        conforms = conforming g _ shows;
        balance = omega (arith, h, d, e);
        counted = omega (arith, k, r, x);
        kept = kept played.each;
      }
