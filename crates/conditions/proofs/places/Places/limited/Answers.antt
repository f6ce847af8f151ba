use Rattle.std.proofs.Common.{◌≡◌, length, rules}
use Rattle.conditions.proofs.Limiting.{limits}
use Rattle.conditions.proofs.places.Places.limited.Goals as goal

pub returns-clause-holds : goal.returns-clause-holds
returns-clause-holds c rs d o =
    let l : length c.args.decision ≡ 4 = search rules in
    let e1 = c.test-applies.ensures in
    let e2 = c.test-absent.ensures in
    let e3 = c.all_three-permit.ensures in
    let e4 = c.all_three-deny.ensures in
    let e5 = c.both-passed.ensures in
    let e6 = c.either-not_applicable.ensures in
    let e7 = c.none_of-indeterminate.ensures in
    limits c.args.decision c.args.target c.args.on_permit c.args.on_deny c.test-applies.result c.test-absent.result c.all_three-permit.result c.all_three-deny.result c.both-passed.result c.either-not_applicable.result c.none_of-indeterminate.result
    l c.requires.decision c.requires.target c.requires.permits c.requires.denies
    e1.grows e2.grows e3.grows e4.grows e5.grows e6.grows e7.grows e1.within e2.within e3.within e4.within e6.within
    rs (e1.holds rs) (e2.holds rs) (e3.holds rs) (e4.holds rs) (e5.holds rs) (e6.holds rs) (e7.holds rs) d o
