-- What the loop keeps: the state that is best so far has few others, or none is.
use Rattle.std.proofs.Common.{◌≡◌, ◌<◌, ◌≤◌, ◌⊎◌}
use Rattle.conditions.specs.States.{others_of}
use Rattle.conditions.proofs.states.left_out.Given as goal

abbrev pub invariant-loop-rest : goal.invariant-loop-rest
invariant-loop-rest l = record { best : ((l.best ≡ 5) × (others_of 5 l.rows ≤ 16)) ⊎ ((l.best < 5) × (others_of l.best l.rows ≤ 13)) }
