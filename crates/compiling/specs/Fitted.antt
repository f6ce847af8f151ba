-- A policy with its conditions.
use Rattle.std.specs.Prelude.{◌≡◌, List, length, Ok, Err, Result}
use Rattle.policy.specs.declared.accepted.Policy.{Policy}
use Rattle.policy.specs.declared.line.Line.{Line}
use Rattle.policy.specs.Accepted.{lines_of}
use Rattle.compiling.specs.declared.fitted.Fitted.{Fitted}
use Rattle.compiling.specs.declared.fitted.Unfitted.{Unfitted}
use Rattle.compiling.specs.declared.memory.Conditions.{Conditions}
use Rattle.compiling.specs.Compiled.{places_of, compiles, Compiled}

abbrev pub fitted_lines : Fitted → List Line
fitted_lines f = lines_of f.policy

-- where there are places enough, the policy as it was with its conditions; else all that was handed in, as it was, with the refusal
abbrev pub Fits : Conditions → Policy → Result Fitted Unfitted → Type 0
Fits c p (Ok f) = (compiles (places_of c) (length (lines_of p)) ≡ Ok tt) × (f.policy ≡ p) × Compiled (length (lines_of p)) c f.conditions
Fits c p (Err e) = (compiles (places_of c) (length (lines_of p)) ≡ Err e.rejection) × (e.policy ≡ p) × (e.conditions ≡ c)
