use Rattle.std.proofs.Common.{◌<◌, ◌≤◌, [], ◌∷◌, refl, ap, arith, rules}
use Rattle.trees.specs.Duties.{dues_of}
use Rattle.trees.specs.Known.{nothing}
use Rattle.deciding.specs.Known.{size}
use Rattle.deciding.proofs.Meaning.{chain_dues, no_chain, duty_within}
use Rattle.deciding.proofs.Adding.{adds_none, adds_both, adds_read, room_first, room_second}
use Rattle.deciding.proofs.known.Known.+add_chain.Goals as goal

pub add_chain-requires : goal.add_chain-requires
add_chain-requires t c =
    let known = c.args.self.now in
    let n = c.in-Some.number in
    let lo : 0 < n = search rules in
    let hi : n ≤ size known = search rules in
    (search rules, ((duty_within known n lo hi c.in-Duty.ensures).2, room_first c.args.numbers.now _ _ _ (chain_dues known n lo hi c.in-Some.is c.in-Duty.ensures) c.requires.room))

pub push_reserved-requires : goal.push_reserved-requires
push_reserved-requires t c =
    let known = c.args.self.now in
    let n = c.in-Some.number in
    let lo : 0 < n = search rules in
    let hi : n ≤ size known = search rules in
    let r = room_second known c.args.numbers.now c.add_chain.new.numbers _ _ _ (chain_dues known n lo hi c.in-Some.is c.in-Duty.ensures) c.add_chain.ensures c.requires.room in
    omega (arith, r)

pub returns-in-Duty : goal.returns-in-Duty
returns-in-Duty t c =
    let known = c.args.self.now in
    let n = c.in-Some.number in
    let lo : 0 < n = search rules in
    let hi : n ≤ size known = search rules in
    adds_both known c.args.numbers.now c.add_chain.new.numbers c.push_reserved.new.self _ _ _ (chain_dues known n lo hi c.in-Some.is c.in-Duty.ensures) c.add_chain.ensures
    (adds_read known c.add_chain.new.numbers c.push_reserved.new.self (n ∷ []) _ (search rules) (search rules) c.push_reserved.ensures.items c.push_reserved.ensures.capacity refl)

pub returns-in_default-line : goal.returns-in_default-line
returns-in_default-line t c =
    adds_none c.args.self.now _ _ (ap (dues_of nothing) (no_chain c.args.self.now c.in-Some.number (search rules) (search rules) c.in-Some.is _ c.line.ensures c.in_default-line.not-Duty))
