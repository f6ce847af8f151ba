-- The memory that a journal asks for.
use Rattle.std.specs.Prelude.{cond, List, length, Ok, Err, Result, nat_lt}
use Rattle.refusals.specs.declared.cause.Cause.TheVariants.{TooSmall}
use Rattle.refusals.specs.declared.place.Rejection.{Rejection}
use Rattle.trees.specs.declared.duty.Duty.{Duty}

-- at least 64 places, or refusal 11
abbrev pub enough_of : List Duty → Result (Unit {0}) Rejection
enough_of memory = cond (nat_lt (length memory) 64) (Err (record { cause = TooSmall; line = 0; field = 0 })) (Ok tt)
