use Rattle.conditions.specs.Places.{values_in}
use Rattle.conditions.proofs.Results.{none_have, all_have}
use Rattle.conditions.proofs.places.Places.pass.Goals as goal

pub fill-requires-clause-none : goal.fill-requires-clause-none
fill-requires-clause-none g c = none_have c.args.self.now c.args.readings.now g.row.N g.row.N

pub returns : goal.returns
returns g c = c.decide.ensures c.fill.new.numbers (values_in c.args.self.now c.args.readings.now) (all_have c.args.self.now c.args.readings.now c.fill.new.classes c.fill.new.numbers c.fill.ensures)
