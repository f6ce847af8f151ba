use Rattle.std.proofs.Common.{◌<◌, length, refl, arith, rules}
use Rattle.conditions.proofs.Growing.{put_grows, put_value, above-more}
use Rattle.conditions.proofs.places.Places.add.Goals as goal

pub invariant_of-self : goal.invariant_of-self
invariant_of-self c =
    let p = c.args.self.now in
    let r = c.requires.room.places in
    let n = c.requires.room.numbers in
    let l : p.used < length p.lines.items = search rules in
    record { fits = omega (arith, r); few = omega (arith, n); above = above-more p.lines.items p.used c.args.line l p.above c.requires.above }

pub returns-clause-grows : goal.returns-clause-grows
returns-clause-grows c =
    let p = c.args.self.now in
    let l : p.used < length p.lines.items = search rules in
    put_grows p _ c.args.line l refl refl refl

pub returns-clause-value : goal.returns-clause-value
returns-clause-value c =
    let p = c.args.self.now in
    let l : p.used < length p.lines.items = search rules in
    put_value p _ c.args.line l refl refl
