use Rattle.std.proofs.Common.{◌≡◌, length, arith, rules}
use Rattle.conditions.proofs.Growing.{grows_more}
use Rattle.conditions.proofs.Numbers.{others_few}
use Rattle.conditions.proofs.places.Places.decision_of.Goals as goal

pub spread-requires-clause-room : goal.spread-requires-clause-room
spread-requires-clause-room c =
    let l : length c.decision_row.result ≡ 5 = search rules in
    let f = others_few 5 c.decision_row.result in
    let p = c.requires.room.places in
    let n = c.requires.room.numbers in
    record { places = omega (arith, l, f, p); numbers = omega (arith, l, f, n) }

pub returns-clause-grows : goal.returns-clause-grows
returns-clause-grows c =
    let l : length c.decision_row.result ≡ 5 = search rules in
    let f = others_few 5 c.decision_row.result in
    grows_more c.spread.ensures.grows (omega (arith, l, f))
