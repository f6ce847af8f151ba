use Rattle.std.proofs.Common.{◌≡◌, true, List, Ok, sym, ap, ◌∙◌, inl, inr}
use Rattle.values.specs.declared.value.Value.{Value}
use Rattle.combining.specs.Combined.{Response}
use Rattle.trees.specs.Policies.{respond}
use Rattle.trees.specs.Known.{known_policy, nothing}
use Rattle.trees.specs.declared.duty.Duty.{Duty}
use Rattle.trees.proofs.Bridge.{known-respond}
use Rattle.gate.specs.Phases.{has_readings}
use Rattle.gate.specs.Book.{decision_in}
use Rattle.gate.specs.Shown.{gate_lines, gate_readings}
use Rattle.gate.proofs.Showing.{read_is_fitted, shown_response}
use Rattle.gate.proofs.gate.Gate.verdict.Goals as goal

pub returns-in-Read : goal.returns-in-Read
returns-in-Read c m agrees =
    let g = c.args.self.now in
    let h : has_readings g.phase ≡ true = elim c.in-Read.is [
      | inl p ↦ ap has_readings p
      | inr p ↦ ap has_readings p
    ] in
    ap Ok (c.verdict.ensures.named _ (g.known (read_is_fitted g.phase h) c.readings.result.now)
    ∙ ap (λ (vs : List Value). (respond nothing (known_policy (gate_lines g) vs)).decision) c.readings.ensures
    ∙ ap (λ (r : Response Duty). r.decision) (known-respond (gate_lines g) (gate_readings g) m (agrees h)))
    ∙ sym (ap decision_in (shown_response g m h))
