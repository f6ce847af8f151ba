-- What the pass keeps: the lines above have their results.
use Rattle.std.proofs.Common.{◌≡◌, length}
use Rattle.conditions.specs.Results.{HaveResults}
use Rattle.conditions.proofs.places.Places.fill.Given as goal

abbrev pub invariant-loop-place : goal.invariant-loop-place
invariant-loop-place l = record {
  results : HaveResults l.place l.self l.readings l.classes l.numbers;
  classes : length l.classes ≡ length l.initial.classes;
  numbers : length l.numbers ≡ length l.initial.numbers;
}
