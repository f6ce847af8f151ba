use Rattle.std.proofs.Common.{◌≡◌, true, List, sym, ap, subst}
use Rattle.values.specs.declared.value.Value.{Value}
use Rattle.trees.specs.Expressions.{Map}
use Rattle.trees.specs.Known.{Reads}
use Rattle.gate.specs.Phases.{has_policy, has_readings}
use Rattle.gate.specs.Shown.{gate_lines}
use Rattle.gate.proofs.gate.Gate.decide.Goals as goal

pub invariant_of-self : goal.invariant_of-self
invariant_of-self c =
    let gate = c.args.self.now in
    let h : has_policy gate.phase ≡ true = ap has_policy c.in-Read.is in
    let R : List Value → Type 0 = λ vs. ∥ ((m : Map) × Reads (gate_lines gate) vs m) ∥₁ in
    record {
      file = λ _. gate.file h;
      agrees = λ _. gate.agrees h;
      known = λ _. gate.known h;
      reads = λ _. subst R (sym c.decide.ensures.read) (gate.reads (ap has_readings c.in-Read.is));
    }
