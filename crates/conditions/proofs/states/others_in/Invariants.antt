use Rattle.std.proofs.Common.{◌≡◌, ◌≤◌, take}
use Rattle.conditions.specs.States.{others_in}
use Rattle.conditions.proofs.states.others_in.Given as goal

abbrev pub invariant-loop-d : goal.invariant-loop-d
invariant-loop-d l = record {
  few : l.others ≤ l.d;
  others : l.others ≡ others_in l.rest (take l.d l.row);
}
