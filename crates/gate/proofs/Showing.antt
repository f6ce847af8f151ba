-- What a gate shows, by what it holds.
use Rattle.std.proofs.Common.{◌≡◌, ℕ, true, List, Ok, refl, ap, ◌∙◌}
use Rattle.policy.specs.declared.line.Line.{Line}
use Rattle.policy.specs.Check.{check_of}
use Rattle.policy.specs.Spelt.{spelt}
use Rattle.policy.proofs.Laws.{one_spelling}
use Rattle.trees.specs.Expressions.{Map}
use Rattle.trees.specs.Policies.{respond}
use Rattle.trees.specs.Parts.{policy_of}
use Rattle.enforcement.specs.declared.bias.Bias.{Bias}
use Rattle.gate.specs.declared.gate.Gate.{Gate}
use Rattle.gate.specs.declared.phase.Phase.{Phase}
use Rattle.gate.specs.declared.phase.Phase.TheVariants.{Empty, Fitted, Read, Waiting}
use Rattle.gate.specs.Phases.{has_policy, has_readings}
use Rattle.gate.specs.Book.{fitted_book, response_now}
use Rattle.gate.specs.Shown.{book_of, gate_lines}

-- the file of accepted lines is accepted
pub spelt_again : (file : List ℕ) (ls : List Line) → check_of file ≡ Ok ls → check_of (spelt ls) ≡ Ok ls
spelt_again file ls e = ap check_of (one_spelling file ls e) ∙ e

-- where there are readings there is a policy
pub read_is_fitted : (p : Phase) → has_readings p ≡ true → has_policy p ≡ true
read_is_fitted Empty h = h
read_is_fitted Fitted h = refl
read_is_fitted Read h = refl
read_is_fitted Waiting h = refl

pub same_book : (bias : Bias) {k n : ℕ} {f g : List ℕ} → k ≡ n → f ≡ g → fitted_book bias k f ≡ fitted_book bias n g
same_book bias p q = rw (p, q)

-- the response that the gate's book has over the readings is that of the gate's policy
pub shown_response : (g : Gate) (m : Map) → has_readings g.phase ≡ true → response_now (book_of g m) ≡ Ok (respond m (policy_of (gate_lines g)))
shown_response g m h = let k = read_is_fitted g.phase h in rw (k, h, g.file k)
