-- What enforcing a response comes to.
use Rattle.std.specs.Prelude.{◌≡◌, ℕ, List, length}
use Rattle.std.specs.List.{list_any}
use Rattle.combining.specs.declared.decision.Decision.{Decision}
use Rattle.trees.specs.declared.duty.Duty.{Duty}
use Rattle.services.specs.declared.service.Reply.{Reply}
use Rattle.services.specs.Meaning.{Meaning}
use Rattle.enforcement.specs.Asked.{Asked, carried, failed, skipped, is_must}
use Rattle.enforcement.specs.Settled.{settled}
use Rattle.enforcement.specs.declared.bias.Bias.{Bias}

-- the enforced decision, and how many duties were carried out, failed and were skipped
abbrev pub results_of : Bias → Decision → List Duty → List Reply → Decision × ℕ × ℕ × ℕ
results_of bias d ds rs = (settled bias d (list_any is_must (failed ds rs)), length (carried ds rs), length (failed ds rs), length (skipped ds rs))

-- the service's replies to the duties asked of it give the results
abbrev pub Enforced : {S : Type 0} → Meaning S → Bias → Decision → List Duty → S → Decision × ℕ × ℕ × ℕ → S → Type 0
Enforced m bias d ds s results t = (rs : List Reply) × Asked m s ds rs t × (results ≡ results_of bias d ds rs)
