-- One call, from what the gate's method promises for every map.
use Rattle.std.proofs.Common.{◌≡◌, List, sym, subst}
use Rattle.trees.specs.Expressions.{Map}
use Rattle.services.specs.declared.service.Reply.{Reply}
use Rattle.services.specs.Meaning.{Meaning}
use Rattle.gate.specs.declared.gate.Gate.{Gate}
use Rattle.gate.specs.Book.{Book}
use Rattle.gate.specs.Shown.{book_of, Agrees, Shows}
use Rattle.runs.specs.declared.call.Answer.{Answer}
use Rattle.runs.specs.Requests.{Request, next, book_answer, Heard}
use Rattle.runs.specs.Pages.{Turn}
use Rattle.runs.proofs.Conforming.{conforming}

-- a page with the answer y, after which the gate is h and the service t
abbrev pub Turned : {V : Type 0} → Meaning V → Gate → V → V → Answer → Book → Request → Type 0
Turned m h s t y b q = (replies : List Reply) × Turn m b s q (record { replies = replies; answer = y; service = t; gate = h })

-- after is the map that the gate h has read, where m is the one that g had read
pub turned : {V : Type 0} (m : Meaning V) (g h : Gate) (after : Map → Map) (replies : List Reply) (s t : V) (y : Answer) (q p : Request) → p ≡ q
    → ((k : Map) → Agrees g k → book_of h (after k) ≡ next (book_of g k) q)
    → ((k : Map) → Agrees g k → Agrees h (after k))
    → ((k : Map) → Agrees g k → y ≡ book_answer (book_of g k) q replies)
    → ((k : Map) → Agrees g k → Heard m (book_of g k) q s replies t)
    → (b : Book) → Shows g b → Turned m h s t y b p
turned m g h after replies s t y q p e n a w r b shows =
    let k = shows.0 in
    let x = shows.2 in
    subst (λ b. Turned m h s t y b p) (sym shows.1)
    (subst (λ p. Turned m h s t y (book_of g k) p) (sym e) (
      replies,
      record {
        heard = r k x;
        answered = w k x;
        shown = (after k, sym (n k x), a k x);
        conforms = conforming h (next (book_of g k) q) (after k, sym (n k x), a k x);
      },
    ))
