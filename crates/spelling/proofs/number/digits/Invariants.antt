use Rattle.std.proofs.Common.{◌≡◌, ◌≤◌, drop}
use Rattle.spelling.specs.Numbers.{at_most, digits_after}
use Rattle.spelling.proofs.number.digits.Given as goal

abbrev pub invariant-loop-b : goal.invariant-loop-b
invariant-loop-b l = (l.n ≤ l.limit) × (at_most l.limit (digits_after l.n (drop l.b-index l.s)) ≡ at_most l.limit (digits_after 0 l.s))
