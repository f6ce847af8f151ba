-- The length that a file may have.
use Rattle.std.specs.Prelude.{ℕ, cond, List, length, Ok, Err, Result, nat_lt}
use Rattle.refusals.specs.declared.cause.Cause.TheVariants.{TooSmall}
use Rattle.refusals.specs.declared.place.Rejection.{Rejection}

-- a file has at most 32,768 bytes
abbrev pub small_of : List ℕ → Result (Unit {0}) Rejection
small_of xs = cond (nat_lt 32768 (length xs)) (Err (record { cause = TooSmall; line = 0; field = 0 })) (Ok tt)
