-- Each duty adds to what became of those before it, and a must that fails is the last.
use Rattle.std.proofs.Common.{◌+◌, refl, sym, ◌∙◌, arith}
use Rattle.std.proofs.lemmas.List.{length-drop}
use Rattle.enforcement.proofs.Trying.{sameb-must, so-far-none, so-far-done, so-far-may, so-far-must, so-far-all}
use Rattle.enforcement.proofs.enforcing.try_duties.Goals as goal
use Rattle.enforcement.proofs.enforcing.try_duties.Goals.{in-Done, in-NotReady+else-eq}

pub loop-tried-init : goal.loop-tried-init
loop-tried-init g c = record { counts = refl; so_far = so-far-none _ _ }

pub returns-then-eq : goal.returns-then-eq
returns-then-eq g c =
    let n = length-drop (c.loop-tried.tried + 1) c.args.duties.now in
    so-far-must _ _ _ _ _ _ _ _ _ c.loop-tried-test.true c.index-duties-tried.is c.loop-tried.invariant.so_far (rw c.in-NotReady.is at c.perform.ensures)
    (sym (sameb-must _) ∙ sym c.eq.ensures ∙ c.if-eq.true) (omega (arith, n))

pub loop-tried-preserved : goal.loop-tried-preserved
loop-tried-preserved g c = elim c.match-perform.branch [
  | in-Done w ↦ rw (w.carried-is, w.failed-is) (record {
    counts = omega (arith, c.loop-tried.invariant.counts);
    so_far = so-far-done _ _ _ _ _ _ _ _ c.loop-tried-test.true c.index-duties-tried.is c.loop-tried.invariant.so_far (rw w.in-Done.is at c.perform.ensures);
  })
  | in-NotReady+else-eq w ↦ rw (w.carried-is, w.failed-is) (record {
    counts = omega (arith, c.loop-tried.invariant.counts);
    so_far = so-far-may _ _ _ _ _ _ _ _ c.loop-tried-test.true c.index-duties-tried.is c.loop-tried.invariant.so_far (rw w.in-NotReady.is at c.perform.ensures)
        (sym (sameb-must _) ∙ sym w.eq.ensures ∙ w.if-eq.false);
  })
]

pub returns : goal.returns
returns g c = so-far-all _ _ _ _ _ _ (omega (arith, c.loop-tried-test.false)) c.loop-tried.invariant.so_far
