use Rattle.std.proofs.Common.{◌≡◌, true, ap, inl, inr}
use Rattle.gate.specs.Phases.{has_policy}
use Rattle.gate.proofs.gate.Gate.read.Goals as goal

pub invariant_of-self : goal.invariant_of-self
invariant_of-self g c =
    let gate = c.args.self.now in
    let h : has_policy gate.phase ≡ true = elim c.in-Fitted.is [
      | inl p ↦ ap has_policy p
      | inr p ↦ ap has_policy p
    ] in
    record {
      file = λ _. gate.file h;
      agrees = λ _. gate.agrees h;
      known = λ _. gate.known h;
      reads = λ _. ∣ (g.S.Source.means c.args.source.now, c.read.ensures.reads) ∣₁;
    }
