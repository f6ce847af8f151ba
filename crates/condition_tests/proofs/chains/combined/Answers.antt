use Rattle.std.proofs.Common.{ap}
use Rattle.combining.specs.Table.{place as place_of}
use Rattle.conditions.specs.Transitions.{first_in, next_in}
use Rattle.conditions.proofs.Growing.{grows_both}
use Rattle.conditions.proofs.Spreading.{only-kept, only-as}
use Rattle.condition_tests.proofs.chains.combined.Goals as goal

pub returns-clause-decides : goal.returns-clause-decides
returns-clause-decides g c rs x y z ox oy oz =
    let f = c.tabulate-table.ensures in
    let one = c.first_states-one in
    let two = c.next_states-two in
    let three = c.next_states-three in
    let last = c.decision_of in
    let s = first_in c.tabulate-table.result x in
    let t = next_in c.tabulate-table.result s y in
    let u = next_in c.tabulate-table.result t z in
    let second = only-kept one.ensures.grows rs c.args.second (place_of y) c.requires.second oy in
    let third = only-kept (grows_both one.ensures.grows two.ensures.grows) rs c.args.third (place_of z) c.requires.third oz in
    let after-one = one.ensures.holds rs x ox in
    let after-two = two.ensures.holds rs s y (f.first_bound x) after-one second in
    let after-three = three.ensures.holds rs t z (f.next_bound s y) after-two third in
    let stands = f.next t z _ (f.next_bound s y) (f.next s y _ (f.first_bound x) (f.first x)) in
    only-as last.new.self rs last.result (ap place_of (f.decision u _ (f.next_bound t z) stands)) (last.ensures.holds rs u (f.next_bound t z) after-three)
