-- Two lists of calls that differ in their files alone, beside one another.
use Rattle.std.specs.Prelude.{◌≡◌, ℕ, List, take, Some, None, Option, Result, is_ok}
use Rattle.std.specs.List.{AllZip}
use Rattle.refusals.specs.declared.place.Rejection.{Rejection}
use Rattle.combining.specs.declared.decision.Decision.{Decision}
use Rattle.combining.specs.Combined.{Response}
use Rattle.combining.specs.Fewer.{Fewer}
use Rattle.trees.specs.declared.duty.Duty.{Duty}
use Rattle.enforcement.specs.declared.bias.Bias.{Bias}
use Rattle.gate.specs.Book.{new_book}
use Rattle.runs.specs.declared.call.Answer.{Answer}
use Rattle.runs.specs.declared.call.Answer.TheVariants.{Fitted, Taken, Decided, Seen, Enforced}
use Rattle.runs.specs.Requests.{Request}
use Rattle.runs.specs.Pages.{book_after}

-- the second answer is the first; of an enforce, both are accepted or both refused
abbrev pub Alike : Answer → Answer → Type 0
Alike (Fitted r) y = y ≡ Fitted r
Alike (Taken r) y = y ≡ Taken r
Alike (Decided r) y = y ≡ Decided r
Alike (Seen r) y = y ≡ Seen r
Alike (Enforced r) y = (s : Result (Decision × ℕ × ℕ × ℕ) Rejection) × (y ≡ Enforced s) × (is_ok s ≡ is_ok r)

-- no response waits in either, or one in each, and the first has the second's duties but for some that may be left out
abbrev pub FewerWaits : Option (Response Duty) → Option (Response Duty) → Type 0
FewerWaits None None = Unit {0}
FewerWaits None (Some s) = ⊥
FewerWaits (Some r) None = ⊥
FewerWaits (Some r) (Some s) = Fewer r s

-- two new gates with the same bias and places were called with qs and rs, and answered ys and zs
pub record Beside (bias : Bias) (places : ℕ) (qs rs : List Request) (ys zs : List Answer) : Type 0 where
  -- call by call
  pub alike : AllZip Alike ys zs
  -- after each number of calls
  pub fewer : (k : ℕ) → FewerWaits (book_after (new_book bias places) (take k qs)).response (book_after (new_book bias places) (take k rs)).response
