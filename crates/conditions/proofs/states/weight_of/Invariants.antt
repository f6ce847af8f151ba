use Rattle.std.proofs.Common.{◌*◌, ◌≤◌}
use Rattle.conditions.proofs.states.weight_of.Given as goal

abbrev pub invariant-loop-state : goal.invariant-loop-state
invariant-loop-state l = record { few : l.weight ≤ 8 * l.state }
