-- What the flat pass answers.
use Rattle.std.specs.Prelude.{ℕ, cond, List}
use Rattle.values.specs.declared.value.Value.{Value}
use Rattle.combining.specs.declared.decision.Decision.{Decision}
use Rattle.combining.specs.declared.decision.Decision.TheVariants.{Permit, Deny, NotApplicable, Indeterminate}
use Rattle.conditions.specs.declared.pass.Marks.{Marks}
use Rattle.conditions.specs.Meaning.{is_true_at}

-- the line that is marked with a decision
abbrev pub mark_of : Marks → Decision → ℕ
mark_of marks Permit = marks.permit
mark_of marks Deny = marks.deny
mark_of marks NotApplicable = marks.not_applicable
mark_of marks Indeterminate = marks.indeterminate

-- the decision whose line is true; indet where none of the other three is
abbrev pub verdict_of : List Value → Marks → Decision
verdict_of vs marks =
    cond (is_true_at vs marks.permit) Permit
    (cond (is_true_at vs marks.deny) Deny
    (cond (is_true_at vs marks.not_applicable) NotApplicable Indeterminate))
