use Rattle.std.proofs.Common.{◌≡◌, length, vec_items, vec_len, ◌∙◌, ap, arith, rules, length-append}
use Rattle.deciding.proofs.Spans.{taken_rest, same_as, taking_other, taking_joined, taking_first, span_fits, span_within}
use Rattle.deciding.proofs.taken.Taken.add_duties.Goals as goal
use Rattle.deciding.proofs.taken.Taken.add_duties.Goals.{then-eq+else-not-self, else-eq}

pub add_span-requires-clause-within : goal.add_span-requires-clause-within
add_span-requires-clause-within c =
    let n : length (vec_items c.args.numbers.now) ≡ vec_len c.args.numbers.now = search rules in
    let m : length (vec_items c.loop-child.numbers) ≡ vec_len c.loop-child.numbers = search rules in
    let w = span_within c.args.self.now c.loop-child.child-index _ (vec_items c.args.numbers.now) (vec_items c.loop-child.numbers) c.loop-child-test.true c.loop-child.invariant.taking n c.requires.within in
    omega (arith, w, m)

pub add_span-requires-clause-room : goal.add_span-requires-clause-room
add_span-requires-clause-room c =
    let os = vec_items c.args.numbers.now in
    let n : length os ≡ vec_len c.args.numbers.now = search rules in
    let m : length (vec_items c.loop-child.numbers) ≡ vec_len c.loop-child.numbers = search rules in
    let s = span_fits c.args.self.now c.loop-child.child-index _ os (vec_items c.loop-child.numbers) c.loop-child-test.true c.loop-child.invariant.taking n c.requires.within (same_as _ _ _ _ c.eq.ensures c.if-eq.true) in
    let a = length-append os (taken_rest c.args.self.now 0 os) in
    let r = c.requires.room in
    let k = c.loop-child.invariant.cap in
    omega (arith, s, a, r, k, n, m)

pub returns-then-not-self-clause-items : goal.returns-then-not-self-clause-items
returns-then-not-self-clause-items c =
    taking_first c.args.self.now c.loop-child.child-index _ (vec_items c.args.numbers.now) (vec_items c.loop-child.numbers) c.loop-child-test.true c.loop-child.invariant.taking (search rules) c.requires.within
    (same_as _ _ _ _ c.eq.ensures c.if-eq.true) _ c.if-not-self.true c.add_span.ensures.items

pub loop-child-preserved : goal.loop-child-preserved
loop-child-preserved c =
    let n : length (vec_items c.args.numbers.now) ≡ vec_len c.args.numbers.now = search rules in
    elim c.if-eq.branch [
      | then-eq+else-not-self v ↦ record {
        taking = taking_joined c.args.self.now c.loop-child.child-index _ (vec_items c.args.numbers.now) (vec_items c.loop-child.numbers) c.loop-child-test.true c.loop-child.invariant.taking n c.requires.within
            (same_as _ _ _ _ c.eq.ensures v.if-eq.true) _ v.if-not-self.false (ap vec_items v.numbers-is ∙ v.add_span.ensures.items);
        cap = search rules;
      }
      | else-eq v ↦ record {
        taking = taking_other c.args.self.now c.loop-child.child-index _ (vec_items c.args.numbers.now) (vec_items c.loop-child.numbers) c.loop-child-test.true c.loop-child.invariant.taking n c.requires.within
            _ (same_as _ _ _ _ c.eq.ensures v.if-eq.false) (ap vec_items v.numbers-is);
        cap = search rules;
      }
    ]
