-- What holds after any list of calls.
use Rattle.std.specs.Prelude.{◌≡◌, ℕ, ◌+◌, Bool, true, false, cond, List, [], ◌∷◌, filter, Some, Ok, Err, Option, Result, is_ok, is_some}
use Rattle.refusals.specs.declared.place.Rejection.{Rejection}
use Rattle.combining.specs.declared.decision.Decision.{Decision}
use Rattle.combining.specs.Decisions.{is_permit}
use Rattle.combining.specs.Combined.{Response}
use Rattle.trees.specs.declared.duty.Duty.{Duty}
use Rattle.services.specs.Meaning.{Meaning}
use Rattle.enforcement.specs.declared.bias.Bias.{Bias}
use Rattle.enforcement.specs.declared.bias.Bias.TheVariants.{Base, DenyBiased, PermitBiased}
use Rattle.enforcement.specs.Asked.{carried, is_must}
use Rattle.gate.specs.declared.gate.Gate.{Gate}
use Rattle.gate.specs.Book.{Book, new_book}
use Rattle.gate.specs.Shown.{Shows}
use Rattle.runs.specs.declared.call.Answer.{Answer}
use Rattle.runs.specs.declared.call.Answer.TheVariants.{Fitted, Taken, Decided, Seen, Enforced}
use Rattle.runs.specs.Requests.{Request, next}
use Rattle.runs.specs.Pages.{Page, Pages, Conforms, book_after, gate_after, service_after, answers_on}

abbrev pub one_if : Bool → ℕ
one_if b = cond b 1 0

-- 1 for a decide that was accepted
abbrev pub decides : Answer → ℕ
decides (Fitted r) = 0
decides (Taken r) = 0
decides (Decided r) = one_if (is_ok r)
decides (Seen r) = 0
decides (Enforced r) = 0

-- 1 for an enforce that was accepted
abbrev pub enforces : Answer → ℕ
enforces (Fitted r) = 0
enforces (Taken r) = 0
enforces (Decided r) = 0
enforces (Seen r) = 0
enforces (Enforced r) = one_if (is_ok r)

-- how many duties an answer reports as carried out
abbrev pub reported : Result (Decision × ℕ × ℕ × ℕ) Rejection → ℕ
reported (Ok results) = results.1
reported (Err e) = 0

abbrev pub reports : Answer → ℕ
reports (Fitted r) = 0
reports (Taken r) = 0
reports (Decided r) = 0
reports (Seen r) = 0
reports (Enforced r) = reported r

abbrev pub total : (Answer → ℕ) → List Answer → ℕ
total f [] = 0
total f (y ∷ ys) = f y + total f ys

abbrev pub permitted : Result (Decision × ℕ × ℕ × ℕ) Rejection → Bool
permitted (Ok results) = is_permit results.0
permitted (Err e) = false

-- an enforce that answered permit
abbrev pub permits : Answer → Bool
permits (Fitted r) = false
permits (Taken r) = false
permits (Decided r) = false
permits (Seen r) = false
permits (Enforced r) = permitted r

abbrev pub musts : List Duty → List Duty
musts ds = filter is_must ds

-- where an enforce answered permit, each must of the response that waited was carried out
abbrev pub KeptIn : {V : Type 0} → Option (Response Duty) → Page V → Type 0
KeptIn waiting p = permits p.answer ≡ true → (r : Response Duty) → waiting ≡ Some r → musts (carried r.duties p.replies) ≡ musts r.duties

-- so on every page
abbrev pub KeptInAll : {V : Type 0} → Book → List Request → List (Page V) → Type 0
KeptInAll b [] ps = Unit {0}
KeptInAll b (q ∷ qs) [] = Unit {0}
KeptInAll b (q ∷ qs) (p ∷ ps) = KeptIn b.response p × KeptInAll (next b q) qs ps

-- base and deny-biased permit only what was carried out
abbrev pub is_strict : Bias → Bool
is_strict Base = true
is_strict DenyBiased = true
is_strict PermitBiased = false

-- a new gate with this bias and so many places was called with qs, the service being s before and t afterwards; it is then g, and gave the answers
pub record Law {V : Type 0} (m : Meaning V) (bias : Bias) (places : ℕ) (s : V) (qs : List Request) (g : Gate) (t : V) (answers : List Answer) : Type 0 where
  pub pages : List (Page V)
  -- every answer is the book's, with what the service replied to the duties that the book tried;
  -- after every call the gate shows the book, and its conditions conform to it
  pub each : Pages m (new_book bias places) s qs pages
  -- so they are at the end
  pub gate : g ≡ gate_after g pages
  pub service : t ≡ service_after s pages
  pub gives : answers ≡ answers_on pages
  pub shown : Shows g (book_after (new_book bias places) qs)
  pub conforms : Conforms g (book_after (new_book bias places) qs)
  -- accepted decides are accepted enforces and the response that waits, if there is one
  pub balance : total decides answers ≡ total enforces answers + one_if (is_some (book_after (new_book bias places) qs).response)
  -- the service has carried out what was reported
  pub counted : m.count t ≡ m.count s + total reports answers
  -- under base and deny-biased an enforce that answered permit had carried out every must of its response
  pub kept : is_strict bias ≡ true → KeptInAll (new_book bias places) qs pages
