-- The answer of the check, with the lines that it leaves.
use Rattle.std.specs.Prelude.{List, Ok, Err, Result}
use Rattle.refusals.specs.declared.place.Rejection.{Rejection}
use Rattle.policy.specs.declared.line.Line.{Line}

abbrev pub with_lines : Result (Unit {0}) Rejection → List Line → Result (List Line) Rejection
with_lines (Ok u) ls = Ok ls
with_lines (Err e) ls = Err e
