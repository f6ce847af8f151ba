-- The four decisions, and questions about lists of them.
use Rattle.std.specs.Prelude.{ℕ, Bool, true, false, cond, List, [], ◌∷◌, codes}
use Rattle.std.specs.List.{list_any}
use Rattle.combining.specs.declared.decision.Decision.{Decision}
use Rattle.combining.specs.declared.decision.Decision.TheVariants.{Permit, Deny, NotApplicable, Indeterminate}

abbrev pub is_permit : Decision → Bool
is_permit Permit = true
is_permit Deny = false
is_permit NotApplicable = false
is_permit Indeterminate = false

abbrev pub is_deny : Decision → Bool
is_deny Permit = false
is_deny Deny = true
is_deny NotApplicable = false
is_deny Indeterminate = false

abbrev pub is_not_applicable : Decision → Bool
is_not_applicable Permit = false
is_not_applicable Deny = false
is_not_applicable NotApplicable = true
is_not_applicable Indeterminate = false

abbrev pub is_indeterminate : Decision → Bool
is_indeterminate Permit = false
is_indeterminate Deny = false
is_indeterminate NotApplicable = false
is_indeterminate Indeterminate = true

-- permit or deny
abbrev pub is_effect : Decision → Bool
is_effect Permit = true
is_effect Deny = true
is_effect NotApplicable = false
is_effect Indeterminate = false

abbrev pub same_decision : Decision → Decision → Bool
same_decision Permit d = is_permit d
same_decision Deny d = is_deny d
same_decision NotApplicable d = is_not_applicable d
same_decision Indeterminate d = is_indeterminate d

-- at least two
abbrev pub two : (Decision → Bool) → List Decision → Bool
two p [] = false
two p (d ∷ ds) = cond (p d) (list_any p ds) (two p ds)

-- how a decision is written
abbrev pub decision_word : Decision → List ℕ
decision_word Permit = codes "permit"
decision_word Deny = codes "deny"
decision_word NotApplicable = codes "not-app"
decision_word Indeterminate = codes "indet"
