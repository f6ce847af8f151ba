use Rattle.std.proofs.Common.{◌≡◌, ℕ, ◌<◌, ◌≤◌, List, [], length, slice_index_or, ap, ◌∙◌, arith, rules}
use Rattle.std.proofs.lemmas.List.{get_or_default}
use Rattle.combining.specs.Table.{place}
use Rattle.conditions.specs.Transitions.{next_in}
use Rattle.conditions.proofs.Growing.{grows_both, grows_more, holds_kept}
use Rattle.conditions.proofs.Numbers.{below_by_decision, place_below, rows_more, rows_part, rows_all}
use Rattle.conditions.proofs.Spreading.{only-kept, turn_more, turn-all}
use Rattle.conditions.proofs.places.Places.next_states.Goals as goal

pub advance-further-requires-clause-room : goal.advance-further-requires-clause-room
advance-further-requires-clause-room c =
    let n : c.loop-state.state < length c.args.table.now.next = search rules in
    let o = rows_part c.left_out-rest.result c.args.table.now.next c.loop-state.state n in
    let b = c.left_out-rest.ensures in
    let m = c.loop-state.invariant.grows.most in
    let s = c.loop-state.invariant.grows.size in
    let p = c.requires.room.places in
    let q = c.requires.room.numbers in
    record { places = omega (arith, o, b, m, s, p); numbers = omega (arith, o, b, m, q) }

pub advance-further-requires-clause-numbers : goal.advance-further-requires-clause-numbers
advance-further-requires-clause-numbers c =
    let s = c.loop-state.state in
    let l : length (slice_index_or c.args.table.now.next s []) ≡ 4 = search rules in
    below_by_decision 5 (slice_index_or c.args.table.now.next s []) 4 l (c.requires.bound s)

pub loop-state-preserved : goal.loop-state-preserved
loop-state-preserved c =
    let i = c.loop-state.state in
    let g = c.loop-state.invariant.grows in
    let row : List ℕ = slice_index_or c.args.table.now.next i [] in
    let l : length row ≡ 4 = search rules in
    let n : i < length c.args.states = search rules in
    let w : i < length c.args.table.now.next = search rules in
    let o = rows_more c.left_out-rest.result c.args.table.now.next i w in
    let e = c.advance-further.ensures in
    record {
      grows = grows_more (grows_both g e.grows) (omega (arith, o));
      long = search rules;
      within = e.within;
      holds = λ rs s d h o p t u r.
          let b = place_below d in
          let m : place d < length row = omega (arith, b, l) in
          e.holds rs (place d) b (only-kept g rs c.args.child (place d) c.requires.child p) t u r
          ∙ turn_more s i t (next_in c.args.table.now s d) (slice_index_or row (place d) 0) (λ e. ap (λ k. next_in c.args.table.now k d) e ∙ get_or_default row (place d) 4 0 m)
          (c.loop-state.invariant.holds rs s d h o p t u r) (holds_kept g rs _ (c.requires.states i n) ∙ o i n);
    }

pub complete-requires-clause-room : goal.complete-requires-clause-room
complete-requires-clause-room c =
    let n : length c.args.table.now.next ≤ c.loop-state.state = search rules in
    let o = rows_all c.left_out-rest.result c.args.table.now.next c.loop-state.state n in
    let b = c.left_out-rest.ensures in
    let m = c.loop-state.invariant.grows.most in
    let s = c.loop-state.invariant.grows.size in
    let p = c.requires.room.places in
    let q = c.requires.room.numbers in
    record { places = omega (arith, o, b, m, s, p); numbers = omega (arith, o, b, m, q) }

pub returns-clause-grows : goal.returns-clause-grows
returns-clause-grows c =
    let n : length c.args.table.now.next ≤ c.loop-state.state = search rules in
    let o = rows_all c.left_out-rest.result c.args.table.now.next c.loop-state.state n in
    let b = c.left_out-rest.ensures in
    grows_more (grows_both c.loop-state.invariant.grows c.complete.ensures.grows) (omega (arith, o, b))

pub returns-clause-holds : goal.returns-clause-holds
returns-clause-holds c rs s d h o p =
    c.complete.ensures.only rs (next_in c.args.table.now s d) (c.requires.bound s d)
    (λ t u r. c.loop-state.invariant.holds rs s d h o p t u r ∙ turn-all s c.loop-state.state t (next_in c.args.table.now s d) h (search rules))
