-- A page for each call of a list: what the service replied, the answer, and service and gate after it.
use Rattle.std.specs.Prelude.{◌≡◌, ℕ, List, [], ◌∷◌, Some}
use Rattle.services.specs.declared.service.Reply.{Reply}
use Rattle.services.specs.Meaning.{Meaning}
use Rattle.trees.specs.Expressions.{Map}
use Rattle.trees.specs.Policies.{respond}
use Rattle.compiling.specs.Compiled.{Names, readings_by}
use Rattle.gate.specs.declared.gate.Gate.{Gate}
use Rattle.gate.specs.Book.{Book, lines_in, policy_in}
use Rattle.gate.specs.Shown.{Shows, conditions_of}
use Rattle.runs.specs.declared.call.Answer.{Answer}
use Rattle.runs.specs.Requests.{Request, next, book_answer, Heard}

pub record Page (V : Type 0) : Type 0 where
  pub replies : List Reply
  pub answer : Answer
  pub service : V
  pub gate : Gate

-- where the book has a policy, the condition that is marked with FACPL's decision holds, whatever the map is, and the gate's other three do not
abbrev pub Conforms : Gate → Book → Type 0
Conforms g b = (file : List ℕ) → b.policy ≡ Some file → (k : Map) → Names (conditions_of g) (readings_by k (lines_in file)) (respond k (policy_in file)).decision

-- one call, at the book b and the service s: the replies are what the service replies, as it is then, to the duties that the book tries;
-- with them the answer is the book's, and then the gate shows the book, and its conditions conform to it
pub record Turn {V : Type 0} (m : Meaning V) (b : Book) (s : V) (q : Request) (p : Page V) : Type 0 where
  pub heard : Heard m b q s p.replies p.service
  pub answered : p.answer ≡ book_answer b q p.replies
  pub shown : Shows p.gate (next b q)
  pub conforms : Conforms p.gate (next b q)

-- a page for each call, in order
pub data Pages {V : Type 0} (m : Meaning V) : Book → V → List Request → List (Page V) → Type 0 where
  none : {b : Book} {s : V} → Pages m b s [] []
  page : {b : Book} {s : V} {qs : List Request} {ps : List (Page V)} (q : Request) (p : Page V) → Turn m b s q p → Pages m (next b q) p.service qs ps → Pages m b s (q ∷ qs) (p ∷ ps)

abbrev pub book_after : Book → List Request → Book
book_after b [] = b
book_after b (q ∷ qs) = book_after (next b q) qs

abbrev pub service_after : {V : Type 0} → V → List (Page V) → V
service_after s [] = s
service_after s (p ∷ ps) = service_after p.service ps

abbrev pub gate_after : {V : Type 0} → Gate → List (Page V) → Gate
gate_after g [] = g
gate_after g (p ∷ ps) = gate_after p.gate ps

abbrev pub answers_on : {V : Type 0} → List (Page V) → List Answer
answers_on [] = []
answers_on (p ∷ ps) = p.answer ∷ answers_on ps

-- the calls were played from the book b on the gate g and the service s, which were h and t at the end, and gave the answers
pub record Played {V : Type 0} (m : Meaning V) (b : Book) (g : Gate) (s : V) (qs : List Request) (h : Gate) (t : V) (answers : List Answer) : Type 0 where
  pub pages : List (Page V)
  pub each : Pages m b s qs pages
  pub gate : h ≡ gate_after g pages
  pub service : t ≡ service_after s pages
  pub gives : answers ≡ answers_on pages
