-- One source before another.
use Rattle.std.specs.Prelude.{cond}
use Rattle.values.specs.declared.value.Value.{Value}
use Rattle.operators.specs.Classes.{is_missing}

-- the second value where the first is missing
abbrev pub unless_missing : Value → Value → Value
unless_missing v w = cond (is_missing v) w v
