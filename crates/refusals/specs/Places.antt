-- A cause with its place.
use Rattle.std.specs.Prelude.{ℕ, List, ◌++◌, Ok, Err, codes, decimal, Result}
use Rattle.refusals.specs.declared.cause.Cause.{Cause}
use Rattle.refusals.specs.declared.place.LineFault.{LineFault}
use Rattle.refusals.specs.declared.place.Rejection.{Rejection}
use Rattle.refusals.specs.Causes.{number_of, layer_of}

abbrev pub at_field : {A : Type 0} → ℕ → Result A Cause → Result A LineFault
at_field field (Ok x) = Ok x
at_field field (Err why) = Err (record { cause = why; field = field })

abbrev pub at_line : {A : Type 0} → ℕ → Result A LineFault → Result A Rejection
at_line line (Ok x) = Ok x
at_line line (Err fault) = Err (record { cause = fault.cause; line = line; field = fault.field })

-- the line that reports a refusal: the word, then number, layer, line and field
abbrev pub refused_line : Rejection → List ℕ
refused_line r =
    codes "refused " ++ (decimal (number_of r.cause) ++ (codes " " ++ (decimal (layer_of (number_of r.cause)) ++ (codes " " ++ (decimal r.line ++ (codes " " ++ decimal r.field))))))
