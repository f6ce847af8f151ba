use Rattle.std.proofs.Common.{zero, suc, arith}
use Rattle.conditions.proofs.table.tabulate.Goals as goal

pub returns : goal.returns
returns g c = record {
  first_bound = c.first_row.ensures.bound;
  first = c.first_row.ensures.reached;
  next_bound = elim [
    | zero ↦ c.next_row.ensures.bound
    | suc zero ↦ c.next_row-2.ensures.bound
    | suc (suc zero) ↦ c.next_row-3.ensures.bound
    | suc (suc (suc zero)) ↦ c.next_row-4.ensures.bound
    | suc (suc (suc (suc s))) ↦ λ d. omega arith
  ];
  next = elim [
    | zero ↦ λ d ds h r. c.next_row.ensures.reached r.0 d ds r.1 r.2
    | suc zero ↦ λ d ds h r. c.next_row-2.ensures.reached r.0 d ds r.1 r.2
    | suc (suc zero) ↦ λ d ds h r. c.next_row-3.ensures.reached r.0 d ds r.1 r.2
    | suc (suc (suc zero)) ↦ λ d ds h r. c.next_row-4.ensures.reached r.0 d ds r.1 r.2
    | suc (suc (suc (suc zero))) ↦ λ d ds h r. (r.0, r.1, g.met.G.NumberedStates.last_stays c.args.algorithm.now r.0 ds d r.1 r.2)
    | suc (suc (suc (suc (suc s)))) ↦ λ d ds h r. absurd (omega arith)
  ];
  decision = λ s ds h r. c.decisions.ensures r.0 s ds h r.1 r.2;
}
