use Rattle.std.proofs.Common.{◌*◌, ◌≤◌, inl, inr, sym, subst, arith}
use Rattle.std.specs.Prelude.{◌+◌, cond, nat_lt}
use Rattle.std.proofs.lemmas.Bool.Decides.{nat_tests}
use Rattle.conditions.specs.States.{others_of}
use Rattle.conditions.proofs.states.left_out.Goals as goal

pub returns : goal.returns
returns c = elim c.loop-rest.invariant.best [
  | inl h ↦ subst (λ n. 2 * others_of n c.args.rows.now + cond (nat_lt n 5) 6 0 ≤ 32) (sym h.0) (let k = h.1 in omega (arith, k))
  | inr h ↦ let e = h.0 in let k = h.1 in grind (arith, nat_tests)
]
