-- A policy's memory that is read into again.
use Rattle.std.specs.Prelude.{◌≡◌, ℕ, List, [], ◌∷◌, false, None, Ok, Err, Result}
use Rattle.refusals.specs.declared.place.Rejection.{Rejection}
use Rattle.policy.specs.declared.line.Effect.TheVariants.{Deny}
use Rattle.policy.specs.declared.line.Line.{Line}
use Rattle.policy.specs.declared.line.Line.TheVariants as l
use Rattle.policy.specs.Check.{check_of}

-- a target that is false, and a deny under it: a policy that never applies
abbrev pub idle_lines : List Line
idle_lines = l.Truth false ∷ l.Rule Deny 1 None ∷ []

-- the file's lines where it is accepted; else the refusal, and the policy that never applies
abbrev pub Reloaded : List ℕ → Result (Unit {0}) Rejection → List Line → Type 0
Reloaded file (Ok u) ls = check_of file ≡ Ok ls
Reloaded file (Err e) ls = (check_of file ≡ Err e) × (ls ≡ idle_lines)
