use Rattle.std.proofs.Common.{◌≡◌, length, arith, rules}
use Rattle.conditions.proofs.Growing.{grows_more}
use Rattle.conditions.proofs.Numbers.{below_by_decision, others_few}
use Rattle.conditions.proofs.places.Places.first_states.Goals as goal

pub spread-requires-clause-numbers : goal.spread-requires-clause-numbers
spread-requires-clause-numbers c =
    let l : length c.args.table.now.first ≡ 4 = search rules in
    below_by_decision 5 c.args.table.now.first 0 l c.requires.bound

pub spread-requires-clause-room : goal.spread-requires-clause-room
spread-requires-clause-room c =
    let l : length c.args.table.now.first ≡ 4 = search rules in
    let f = others_few 5 c.args.table.now.first in
    let p = c.requires.room.places in
    let n = c.requires.room.numbers in
    record { places = omega (arith, l, f, p); numbers = omega (arith, l, f, n) }

pub returns-clause-grows : goal.returns-clause-grows
returns-clause-grows c =
    let l : length c.args.table.now.first ≡ 4 = search rules in
    let f = others_few 5 c.args.table.now.first in
    grows_more c.spread.ensures.grows (omega (arith, l, f))
