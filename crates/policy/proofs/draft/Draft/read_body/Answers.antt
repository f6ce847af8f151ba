use Rattle.std.proofs.Common.{◌≡◌, ◌+◌, length, vec_items, sym, arith, rules}
use Rattle.policy.proofs.Turns.{stops, goes}
use Rattle.policy.proofs.draft.Draft.read_body.Goals as goal

pub returns-in-Err-clause-value : goal.returns-in-Err-clause-value
returns-in-Err-clause-value c =
    let l = c.loop-rest in
    let next : c.len-next.result + 1 ≡ length (vec_items l.self.lines) + 1 = search rules in
    stops (vec_items l.self.lines) l.self.named l.rest.now _ (sym c.loop-rest-test.ensures) l.invariant.read (c.len-next.result + 1) next (omega arith)
    c.next_line.result c.next_line.new.self.named c.next_line.ensures.value c.in-Err.rejection (search rules)

pub loop-rest-preserved : goal.loop-rest-preserved
loop-rest-preserved c =
    let l = c.loop-rest in
    let next : c.len-next.result + 1 ≡ length (vec_items l.self.lines) + 1 = search rules in record {
      capacity = search rules;
      read = goes (vec_items l.self.lines) l.self.named l.rest.now _ (sym c.loop-rest-test.ensures) l.invariant.read (c.len-next.result + 1) next (omega arith)
          c.next_line.result c.next_line.new.self.named c.next_line.ensures.value c.in-Ok.read (search rules) (vec_items c.push_reserved.new.self) (search rules);
    }
