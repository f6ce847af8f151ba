-- Two files, checked in the order in which their faults are reported.
use Rattle.std.specs.Prelude.{◌≡◌, ℕ, List, Ok, Err, Result}
use Rattle.refusals.specs.Limits.{small_of}
use Rattle.refusals.specs.Results.{bind_r}
use Rattle.refusals.specs.declared.place.Rejection.{Rejection}
use Rattle.policy.specs.Accepted.{lines_of}
use Rattle.policy.specs.Check.{check_of}
use Rattle.policy.specs.declared.line.Line.{Line}
use Rattle.readings.specs.Outcome.{table_in, readings_of}
use Rattle.readings.specs.Table.{Table}
use Rattle.pair.specs.declared.check.Pair.{Pair}

-- the policy's length and faults come before those of the readings
abbrev pub pair_of : List ℕ → List ℕ → Result (List Line × Table) Rejection
pair_of policy readings =
    bind_r (small_of policy) (λ _.
    bind_r (check_of policy) (λ lines.
    bind_r (readings_of readings) (λ table.
    Ok (lines, table))))

-- the lines and the table, or the refusal
abbrev pub Admits : Result (List Line × Table) Rejection → Result Pair Rejection → Type 0
Admits want (Ok p) = want ≡ Ok (lines_of p.policy, table_in p.readings)
Admits want (Err e) = want ≡ Err e
