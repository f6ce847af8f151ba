-- A table of decisions, by the decision so far and the next child's, tested against an algorithm's words.
use Rattle.std.specs.Prelude.{◌≡◌, ℕ, Bool, ◌&&◌, List, [], ◌∷◌, slice_index_or}
use Rattle.spelling.specs.declared.algorithm.Algorithm.{Algorithm}
use Rattle.combining.specs.declared.decision.Decision.{Decision}
use Rattle.combining.specs.declared.decision.Decision.TheVariants.{Permit, Deny, NotApplicable, Indeterminate}
use Rattle.combining.specs.Decisions.{same_decision}
use Rattle.combining.specs.Wording.{decision_by}

-- the place of a decision in a row or a column
abbrev pub place : Decision → ℕ
place Permit = 0
place Deny = 1
place NotApplicable = 2
place Indeterminate = 3

-- the decision on two children
abbrev pub entry : Algorithm → Decision → Decision → Decision
entry a s d = decision_by a (s ∷ d ∷ [])

-- a test of all four decisions
abbrev pub each : (Decision → Bool) → Bool
each p = p Permit && p Deny && p NotApplicable && p Indeterminate

-- whether each entry of the table is the decision on two children
abbrev pub agrees : Algorithm → List (List Decision) → Bool
agrees a t = each (λ s. each (λ d. same_decision (slice_index_or (slice_index_or t (place s) []) (place d) Permit) (entry a s d)))

-- some child was seen
abbrev pub NotEmpty : List Decision → Type 0
NotEmpty [] = ⊥
NotEmpty (d ∷ ds) = Unit {0}

-- the decision s stands for the children ds
abbrev pub Reached : Algorithm → Decision → List Decision → Type 0
Reached a s ds = (s ≡ decision_by a ds) × NotEmpty ds
