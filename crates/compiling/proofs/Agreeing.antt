-- That the marked conditions name one decision, and that a map's readings are read by it.
use Rattle.std.proofs.Common.{◌≡◌, ℕ, zero, suc, ◌-◌, ◌<◌, false, List, [], ◌∷◌, length, slice_index_or, refl, sym, ap, ◌∙◌, subst, arith}
use Rattle.std.specs.Prelude.{cond, ◌==◌}
use Rattle.values.specs.declared.value.Value.{Value}
use Rattle.values.specs.declared.value.Value.TheVariants.{Missing as missing}
use Rattle.policy.specs.declared.line.Line.{Line}
use Rattle.policy.specs.declared.line.Line.TheVariants as l
use Rattle.policy.specs.Lines.{line_at}
use Rattle.combining.specs.declared.decision.Decision.{Decision}
use Rattle.combining.specs.declared.decision.Decision.TheVariants.{Permit, Deny, NotApplicable, Indeterminate}
use Rattle.combining.specs.Table.{place}
use Rattle.combining.specs.Decisions.{same_decision}
use Rattle.combining.specs.Combined.{Response}
use Rattle.trees.specs.declared.duty.Duty.{Duty}
use Rattle.trees.specs.Expressions.{Map}
use Rattle.trees.specs.Policies.{respond}
use Rattle.trees.specs.Parts.{policy_of}
use Rattle.trees.specs.Known.{wanted, Reads, known_policy, nothing}
use Rattle.trees.proofs.Bridge.{known-respond}
use Rattle.conditions.specs.Places.{values_in}
use Rattle.conditions.specs.Pass.{verdict_of}
use Rattle.compiling.specs.declared.memory.Conditions.{Conditions}
use Rattle.compiling.specs.Compiled.{Names, readings_by}

-- the pass answers the decision that is named
pub named_verdict : (c : Conditions) (readings : List Value) (d : Decision) → Names c readings d → verdict_of (values_in c.places readings) c.marks ≡ d
named_verdict c readings d n = cc (n Permit, n Deny, n NotApplicable) ∙ by d
  where
    by : (d : Decision) → cond (same_decision Permit d) Permit (cond (same_decision Deny d) Deny (cond (same_decision NotApplicable d) NotApplicable Indeterminate)) ≡ d
    by Permit = refl
    by Deny = refl
    by NotApplicable = refl
    by Indeterminate = refl

-- what a line wants does not depend on what it is given, if it is an attr line
wants : (m : Map) (x : Line) → wanted m x missing ≡ wanted m x (wanted m x missing)
wants m (l.Truth b) = refl
wants m (l.Attribute x) = refl
wants m (l.Number z) = refl
wants m (l.Text x) = refl
wants m (l.Not j) = refl
wants m (l.Binary o j k) = refl
wants m (l.Duty f a e d) = refl
wants m (l.Item p i) = refl
wants m (l.Rule e t d) = refl
wants m (l.Set c t i p d) = refl

looked_up : (m : Map) (ls : List Line) (i : ℕ) → i < length ls → slice_index_or (readings_by m ls) i missing ≡ wanted m (slice_index_or ls i (l.Truth false)) missing
looked_up m [] i h = absurd (omega arith)
looked_up m (x ∷ ls) zero h = refl
looked_up m (x ∷ ls) (suc i) h = looked_up m ls i (omega arith)

pub reads_by : (m : Map) (ls : List Line) → Reads ls (readings_by m ls) m
reads_by m ls n lo hi =
    let e = looked_up m ls (n - 1) (omega arith) in
    e ∙ wants m (line_at ls n) ∙ ap (wanted m (line_at ls n)) (sym e)

-- so what holds of all readings holds of those of every map
pub names_by : (c : Conditions) (ls : List Line) → ((readings : List Value) → Names c readings (respond nothing (known_policy ls readings)).decision) → (m : Map) → Names c (readings_by m ls) (respond m (policy_of ls)).decision
names_by c ls h m = subst (λ (r : Response Duty). Names c (readings_by m ls) r.decision) (known-respond ls (readings_by m ls) m (reads_by m ls)) (h (readings_by m ls))

-- two decisions are the same if their numbers are
pub same_place : (d e : Decision) → (place d == place e) ≡ same_decision d e
same_place Permit Permit = refl
same_place Permit Deny = refl
same_place Permit NotApplicable = refl
same_place Permit Indeterminate = refl
same_place Deny Permit = refl
same_place Deny Deny = refl
same_place Deny NotApplicable = refl
same_place Deny Indeterminate = refl
same_place NotApplicable Permit = refl
same_place NotApplicable Deny = refl
same_place NotApplicable NotApplicable = refl
same_place NotApplicable Indeterminate = refl
same_place Indeterminate Permit = refl
same_place Indeterminate Deny = refl
same_place Indeterminate NotApplicable = refl
same_place Indeterminate Indeterminate = refl
