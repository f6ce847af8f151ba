-- What is there in each phase.
use Rattle.std.specs.Prelude.{Bool, true, false}
use Rattle.gate.specs.declared.phase.Phase.{Phase}
use Rattle.gate.specs.declared.phase.Phase.TheVariants.{Empty, Fitted, Read, Waiting}

abbrev pub has_policy : Phase → Bool
has_policy Empty = false
has_policy Fitted = true
has_policy Read = true
has_policy Waiting = true

abbrev pub has_readings : Phase → Bool
has_readings Empty = false
has_readings Fitted = false
has_readings Read = true
has_readings Waiting = true

abbrev pub has_response : Phase → Bool
has_response Empty = false
has_response Fitted = false
has_response Read = false
has_response Waiting = true
