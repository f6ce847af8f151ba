-- The combining algorithms, in words over the children's decisions.
use Rattle.std.specs.Prelude.{◌≡◌, Bool, true, false, cond, not, ◌&&◌, ◌||◌, List, [], ◌∷◌, ◌++◌}
use Rattle.std.specs.List.{list_any, list_all}
use Rattle.spelling.specs.declared.algorithm.Algorithm.{Algorithm}
use Rattle.spelling.specs.declared.algorithm.Algorithm.TheVariants.{PermitOverrides, DenyOverrides, DenyUnlessPermit, PermitUnlessDeny, FirstApplicable, OneApplicable, WeakConsensus, StrongConsensus}
use Rattle.combining.specs.declared.decision.Decision.{Decision}
use Rattle.combining.specs.declared.decision.Decision.TheVariants.{Permit, Deny, NotApplicable, Indeterminate}
use Rattle.combining.specs.Decisions.{is_permit, is_deny, is_not_applicable, is_indeterminate, is_effect, two}

-- an algorithm: the decision on its children's decisions, the decisions that no further child can change,
-- and whether the duties of all children with the decision are joined or only the first one's are taken
pub record Wording : Type 0 where
  pub decision : List Decision → Decision
  pub is_final : Decision → Bool
  pub joins : Bool

-- permit where some child permits, or else deny where some child denies; not-app where neither does
abbrev pub given : List Decision → Decision
given ds = cond (list_any is_permit ds) Permit (cond (list_any is_deny ds) Deny NotApplicable)

-- what the earliest child that applies decides; not-app where none applies
abbrev pub first_applicable : List Decision → Decision
first_applicable [] = NotApplicable
first_applicable (d ∷ ds) = cond (is_not_applicable d) (first_applicable ds) d

-- what every child says, where all say the same; indet where they differ
abbrev pub shared : List Decision → Decision
shared ds =
    cond (list_all is_permit ds) Permit
    (cond (list_all is_deny ds) Deny
    (cond (list_all is_not_applicable ds) NotApplicable Indeterminate))

abbrev pub decision_by : Algorithm → List Decision → Decision
decision_by PermitOverrides ds = cond (list_any is_permit ds) Permit (cond (list_any is_indeterminate ds) Indeterminate (cond (list_any is_deny ds) Deny NotApplicable))
decision_by DenyOverrides ds = cond (list_any is_deny ds) Deny (cond (list_any is_indeterminate ds) Indeterminate (cond (list_any is_permit ds) Permit NotApplicable))
decision_by DenyUnlessPermit ds = cond (list_any is_permit ds) Permit Deny
decision_by PermitUnlessDeny ds = cond (list_any is_deny ds) Deny Permit
decision_by FirstApplicable ds = first_applicable ds
decision_by OneApplicable ds = cond (list_any is_indeterminate ds || two is_effect ds) Indeterminate (given ds)
decision_by WeakConsensus ds = cond (list_any is_indeterminate ds || (list_any is_permit ds && list_any is_deny ds)) Indeterminate (given ds)
decision_by StrongConsensus ds = shared ds

abbrev pub is_final_by : Algorithm → Decision → Bool
is_final_by PermitOverrides d = is_permit d
is_final_by DenyOverrides d = is_deny d
is_final_by DenyUnlessPermit d = is_permit d
is_final_by PermitUnlessDeny d = is_deny d
is_final_by FirstApplicable d = not (is_not_applicable d)
is_final_by OneApplicable d = is_indeterminate d
is_final_by WeakConsensus d = is_indeterminate d
is_final_by StrongConsensus d = is_indeterminate d

abbrev pub joins_by : Algorithm → Bool
joins_by PermitOverrides = true
joins_by DenyOverrides = true
joins_by DenyUnlessPermit = true
joins_by PermitUnlessDeny = true
joins_by FirstApplicable = false
joins_by OneApplicable = true
joins_by WeakConsensus = true
joins_by StrongConsensus = true

abbrev pub wording_of : Algorithm → Wording
wording_of a = record { decision = decision_by a; is_final = is_final_by a; joins = joins_by a }

-- a final decision is kept, whatever the next child decides
abbrev pub FinalStays : Wording → Type 0
FinalStays w = (ds : List Decision) (d : Decision) → w.is_final (w.decision ds) ≡ true → w.decision (ds ++ d ∷ []) ≡ w.decision ds
