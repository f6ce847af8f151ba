use Rattle.std.proofs.Common.{ap, ◌∙◌, to_z-of_z, w32, SFits, rules}
use Rattle.conditions.specs.Results.{outcome_of}
use Rattle.conditions.proofs.Results.{have_more}
use Rattle.conditions.proofs.places.Places.fill.Goals as goal

pub loop-place-preserved : goal.loop-place-preserved
loop-place-preserved c =
    let f : SFits w32 c.split-class.result.1 = search rules in
    record {
      results = have_more c.args.self.now c.args.readings.now c.loop-place.classes c.loop-place.numbers c.loop-place.place _ _ c.outcome-outcome.result (search rules) (search rules) (search rules) c.loop-place.invariant.results (ap (outcome_of c.split-class.result.0) (to_z-of_z f) ∙ c.split-class.ensures) (c.outcome-outcome.ensures c.loop-place.invariant.results);
      classes = search rules;
      numbers = search rules;
    }
