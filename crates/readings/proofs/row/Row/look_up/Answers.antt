use Rattle.std.proofs.Common.{◌≡◌, sym, ap, ◌∙◌, rules, tests}
use Rattle.std.proofs.lemmas.Iterator.{YieldsList-from_slice, YieldsList-from_zip}
use Rattle.std.proofs.lemmas.Iterator.Search.{find_from_yields_List}
use Rattle.readings.specs.Rows.{map_in}
use Rattle.readings.proofs.OneRow.{is_named, told, told_row}
use Rattle.readings.proofs.row.Row.look_up.Goals as goal
use Rattle.readings.proofs.row.Row.look_up.Goals.{After-find}

found : (c : After-find) → told c.find.result ≡ map_in c.args.self.now c.args.name.now
found c =
    let names = c.args.self.now.names.now in
    let cells = c.args.self.now.cells.now in
    told_row names cells c.args.name.now c.find.result
    (find_from_yields_List (is_named c.args.name.now) c.find.new.self _ c.find.result c.find.ensures.ran
    (YieldsList-from_zip {s = c.zip-pairs.result} (YieldsList-from_slice names (search rules)) (YieldsList-from_slice cells (search rules))) (λ x b q k. search (rules, tests)))

pub returns-in-Some : goal.returns-in-Some
returns-in-Some c = ap told (sym c.in-Some.is) ∙ found c.before.before

pub returns-in-None : goal.returns-in-None
returns-in-None c = ap told (sym c.in-None.is) ∙ found c.before
