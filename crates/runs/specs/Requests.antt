-- What a book is told of a call, and what it makes of it.
use Rattle.std.specs.Prelude.{◌≡◌, ℕ, List, []}
use Rattle.trees.specs.Expressions.{Map}
use Rattle.services.specs.declared.service.Reply.{Reply}
use Rattle.services.specs.Meaning.{Meaning}
use Rattle.gate.specs.Book.{Book, fit_answer, fit_next, read_answer, read_next, decide_answer, decide_next, quick_answer, enforce_answer, enforce_next, Replies}
use Rattle.runs.specs.declared.call.Call.{Call}
use Rattle.runs.specs.declared.call.Call.TheVariants as call
use Rattle.runs.specs.declared.call.Answer.{Answer}
use Rattle.runs.specs.declared.call.Answer.TheVariants.{Fitted, Taken, Decided, Seen, Enforced}

pub data Request : Type 0 where
  fit : List ℕ → Request
  read : Map → Request
  decide : Request
  quick : Request
  enforce : Request

-- a file as it is
abbrev pub as_given : List ℕ → List ℕ
as_given file = file

-- a call by its arguments: the file that is fitted, and the map that a source means
abbrev pub request_of : {S : Type 0} → (List ℕ → List ℕ) → (S → Map) → Call S → Request
request_of fitted means (call.Fit file) = fit (fitted file.now)
request_of fitted means (call.Read source) = read (means source.now)
request_of fitted means call.Decide = decide
request_of fitted means call.Quick = quick
request_of fitted means call.Enforce = enforce

-- the book after a call
abbrev pub next : Book → Request → Book
next b (fit file) = fit_next b file
next b (read m) = read_next b m
next b decide = decide_next b
next b quick = b
next b enforce = enforce_next b

-- the book's answer, with the service's replies in the call
abbrev pub book_answer : Book → Request → List Reply → Answer
book_answer b (fit file) replies = Fitted (fit_answer b file)
book_answer b (read m) replies = Taken (read_answer b)
book_answer b decide replies = Decided (decide_answer b)
book_answer b quick replies = Seen (quick_answer b)
book_answer b enforce replies = Enforced (enforce_answer b.bias b.response replies)

-- nothing is asked of the service
abbrev pub Silent : {V : Type 0} → V → List Reply → V → Type 0
Silent s replies t = (t ≡ s) × (replies ≡ [])

-- the service is asked in an enforce alone
abbrev pub Heard : {V : Type 0} → Meaning V → Book → Request → V → List Reply → V → Type 0
Heard m b (fit file) s replies t = Silent s replies t
Heard m b (read k) s replies t = Silent s replies t
Heard m b decide s replies t = Silent s replies t
Heard m b quick s replies t = Silent s replies t
Heard m b enforce s replies t = Replies m b.response s replies t
