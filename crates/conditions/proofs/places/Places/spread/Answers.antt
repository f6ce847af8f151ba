use Rattle.std.proofs.Common.{◌<◌, length, slice_index_or, ◌∙◌, ap, arith, rules}
use Rattle.conditions.specs.Places.{holds}
use Rattle.conditions.specs.States.{truth_at}
use Rattle.conditions.proofs.Growing.{grows_both, grows_more, holds_kept}
use Rattle.conditions.proofs.Numbers.{others_more, others_part}
use Rattle.conditions.proofs.Spreading.{spread_more, spread_all}
use Rattle.conditions.proofs.places.Places.spread.Goals as goal

pub loop-d-preserved : goal.loop-d-preserved
loop-d-preserved c =
    let i = c.loop-d.d in
    let li = c.loop-d-test.true in
    let row = c.args.row.now in
    let alike = c.requires.alike in
    let lf : i < length c.args.from.now = omega (arith, li, alike) in
    let g = c.loop-d.invariant.grows in
    let o = others_more c.args.rest row i li in
    let e = c.spread_one-spread.ensures in
    record {
      grows = grows_more (grows_both g e.grows) (omega (arith, o));
      long = search rules;
      within = e.within;
      holds = λ rs d p t l n.
          e.holds rs t (search rules) n
          ∙ spread_more (holds c.args.self.now rs (truth_at c.args.into t)) (holds c.args.self.now rs c.args.state) d (slice_index_or row d 0) i (slice_index_or row i 0) t
          (λ q. ap (λ k. slice_index_or row k 0) q) (c.loop-d.invariant.holds rs d p t (search rules) n) (holds_kept g rs c.args.state c.requires.state)
          (holds_kept g rs (truth_at c.args.from.now i) (c.requires.beside i lf) ∙ p i lf);
    }

pub returns-clause-holds : goal.returns-clause-holds
returns-clause-holds c rs d l o t u n =
    let test = c.loop-d-test.false in
    c.loop-d.invariant.holds rs d o t (search rules) n
    ∙ spread_all (holds c.args.self.now rs (truth_at c.args.into t)) (holds c.args.self.now rs c.args.state) d (slice_index_or c.args.row.now d 0) c.loop-d.d t (omega (arith, test, l))

pub spread_one-spread-requires-clause-room : goal.spread_one-spread-requires-clause-room
spread_one-spread-requires-clause-room c =
    let o = others_part c.args.rest c.args.row.now c.loop-d.d c.loop-d-test.true in
    let m = c.loop-d.invariant.grows.most in
    let s = c.loop-d.invariant.grows.size in
    let p = c.requires.room.places in
    let n = c.requires.room.numbers in
    record { places = omega (arith, o, m, s, p); numbers = omega (arith, o, m, n) }
