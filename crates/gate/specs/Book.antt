-- The book: what a gate holds and answers, told from its calls and the service's replies alone.
use Rattle.std.specs.Prelude.{◌≡◌, ℕ, List, [], length, Some, None, Ok, Err, Option, Result}
use Rattle.refusals.specs.Results.{bind_r, or_refuse}
use Rattle.refusals.specs.declared.cause.Cause.{Cause}
use Rattle.refusals.specs.declared.cause.Cause.TheVariants.{NoPolicy, NoReadings, ResponseWaits, NoneWaits}
use Rattle.refusals.specs.declared.place.Rejection.{Rejection}
use Rattle.policy.specs.declared.line.Line.{Line}
use Rattle.policy.specs.Check.{check_of}
use Rattle.combining.specs.declared.decision.Decision.{Decision}
use Rattle.combining.specs.Combined.{Response}
use Rattle.trees.specs.declared.duty.Duty.{Duty}
use Rattle.trees.specs.Expressions.{Map}
use Rattle.trees.specs.Policies.{Policy, respond}
use Rattle.trees.specs.Parts.{policy_of}
use Rattle.compiling.specs.Compiled.{compiles}
use Rattle.services.specs.declared.service.Reply.{Reply}
use Rattle.services.specs.Meaning.{Meaning}
use Rattle.enforcement.specs.declared.bias.Bias.{Bias}
use Rattle.enforcement.specs.Asked.{Asked}
use Rattle.enforcement.specs.Enforced.{results_of}

pub record Book : Type 0 where
  pub bias : Bias
  pub places : ℕ
  -- the file in force
  pub policy : Option (List ℕ)
  pub readings : Option Map
  -- the response that waits
  pub response : Option (Response Duty)

abbrev pub new_book : Bias → ℕ → Book
new_book bias places = record { bias = bias; places = places; policy = None; readings = None; response = None }

-- the lines of a file that is accepted; one that is refused has none
abbrev pub accepted_lines : Result (List Line) Rejection → List Line
accepted_lines (Ok ls) = ls
accepted_lines (Err e) = []

abbrev pub lines_in : List ℕ → List Line
lines_in file = accepted_lines (check_of file)

-- the policy that a file spells
abbrev pub policy_in : List ℕ → Policy
policy_in file = policy_of (lines_in file)

-- a call out of order is refused without a place
abbrev pub out_of_order : Cause → Rejection
out_of_order cause = record { cause = cause; line = 0; field = 0 }

-- what calls ask for: a policy (12), readings (13), that no response waits (14), that one does (15)
abbrev pub policy_needed : Book → Result (List ℕ) Rejection
policy_needed b = or_refuse b.policy (out_of_order NoPolicy)

abbrev pub readings_needed : Book → Result Map Rejection
readings_needed b = or_refuse b.readings (out_of_order NoReadings)

abbrev pub none_waiting : Option (Response Duty) → Result (Unit {0}) Rejection
none_waiting None = Ok tt
none_waiting (Some r) = Err (out_of_order ResponseWaits)

abbrev pub response_needed : Option (Response Duty) → Result (Response Duty) Rejection
response_needed r = or_refuse r (out_of_order NoneWaits)

-- the book after a call that may have been refused
abbrev pub after : {A : Type 0} → Result A Rejection → Book → (A → Book) → Book
after (Ok x) b f = f x
after (Err e) b f = b

-- fit: 14, the file's own refusal, 11; the policy comes into force, and there are no readings for it
abbrev pub load_answer : ℕ → List ℕ → Result (Unit {0}) Rejection
load_answer places file = bind_r (check_of file) (λ ls. compiles places (length ls))

abbrev pub fit_answer : Book → List ℕ → Result (Unit {0}) Rejection
fit_answer b file = bind_r (none_waiting b.response) (λ _. load_answer b.places file)

-- a policy alone
abbrev pub fitted_book : Bias → ℕ → List ℕ → Book
fitted_book bias places file = record { bias = bias; places = places; policy = Some file; readings = None; response = None }

abbrev pub fit_next : Book → List ℕ → Book
fit_next b file = after (fit_answer b file) b (λ _. fitted_book b.bias b.places file)

-- read: 12, 14; the readings are the source's map
abbrev pub read_answer : Book → Result (Unit {0}) Rejection
read_answer b = bind_r (policy_needed b) (λ _. none_waiting b.response)

abbrev pub read_next : Book → Map → Book
read_next b m = after (read_answer b) b (λ _. record b { readings = Some m })

-- the policy's response over the readings: 12, 13
abbrev pub response_now : Book → Result (Response Duty) Rejection
response_now b = bind_r (policy_needed b) (λ file. bind_r (readings_needed b) (λ m. Ok (respond m (policy_in file))))

abbrev pub decision_in : Result (Response Duty) Rejection → Result Decision Rejection
decision_in r = bind_r r (λ x. Ok x.decision)

-- decide: 12, 13, 14; the response waits
abbrev pub decided : Book → Result (Response Duty) Rejection
decided b = bind_r (response_now b) (λ r. bind_r (none_waiting b.response) (λ _. Ok r))

abbrev pub decide_answer : Book → Result Decision Rejection
decide_answer b = decision_in (decided b)

abbrev pub decide_next : Book → Book
decide_next b = after (decided b) b (λ r. record b { response = Some r })

-- quick: 12, 13; nothing changes
abbrev pub quick_answer : Book → Result Decision Rejection
quick_answer b = decision_in (response_now b)

-- enforce: 15; what the service's replies make of the response that waited, and none waits any more
abbrev pub enforce_answer : Bias → Option (Response Duty) → List Reply → Result (Decision × ℕ × ℕ × ℕ) Rejection
enforce_answer bias waiting rs = bind_r (response_needed waiting) (λ r. Ok (results_of bias r.decision r.duties rs))

abbrev pub enforce_next : Book → Book
enforce_next b = record b { response = None }

-- the duties of a response that waits are asked of the service in order, which gives the replies; where none waits it is not asked, and replies nothing
abbrev pub Replies : {S : Type 0} → Meaning S → Option (Response Duty) → S → List Reply → S → Type 0
Replies m None s rs t = (t ≡ s) × (rs ≡ [])
Replies m (Some r) s rs t = Asked m s r.duties rs t
