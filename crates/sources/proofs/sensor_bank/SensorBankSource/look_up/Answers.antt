use Rattle.std.proofs.Common.{◌≡◌, sym, ap, ◌∙◌, rules, tests}
use Rattle.std.proofs.lemmas.Iterator.{YieldsList-from_slice}
use Rattle.std.proofs.lemmas.Iterator.Search.{find_from_yields_List}
use Rattle.sources.specs.Sensors.{bank_map}
use Rattle.sources.proofs.Sensors.{has_name, told, told_sensor}
use Rattle.sources.proofs.sensor_bank.SensorBankSource.look_up.Goals as goal
use Rattle.sources.proofs.sensor_bank.SensorBankSource.look_up.Goals.{After-find}

found : (c : After-find) → told c.find.result ≡ bank_map c.args.self.now c.args.name.now
found c =
    let sensors = c.args.self.now.sensors in
    told_sensor sensors c.args.name.now c.find.result
    (find_from_yields_List (has_name c.args.name.now) c.find.new.self _ c.find.result c.find.ensures.ran
    (YieldsList-from_slice sensors (search rules)) (λ x b q k. search (rules, tests)))

pub returns-in-Some : goal.returns-in-Some
returns-in-Some c = c.value.ensures ∙ ap told (sym c.in-Some.is) ∙ found c.before.before

pub returns-in-None : goal.returns-in-None
returns-in-None c = ap told (sym c.in-None.is) ∙ found c.before
