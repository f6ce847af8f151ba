-- The worked examples.
use Rattle.std.specs.Prelude.{ℕ, false, cond, List, [], ◌∷◌, ◌++◌, pos, negsuc, Ok, Err, codes, Result}
use Rattle.std.specs.Str.{bytes_eq}
use Rattle.values.specs.declared.value.Value.{Value}
use Rattle.values.specs.declared.value.Value.TheVariants.{Missing as missing, Error as error, Bool as boolean, Number as number, Text as text}
use Rattle.spelling.specs.declared.algorithm.Algorithm.{Algorithm}
use Rattle.spelling.specs.declared.algorithm.Algorithm.TheVariants.{PermitOverrides, OneApplicable, WeakConsensus, StrongConsensus}
use Rattle.policy.specs.declared.line.Line.{Line}
use Rattle.policy.specs.declared.line.Operator.{Operator}
use Rattle.policy.specs.declared.line.Operator.TheVariants.{And, Div}
use Rattle.policy.specs.Check.{check_of}
use Rattle.combining.specs.declared.decision.Decision.{Decision}
use Rattle.combining.specs.declared.decision.Decision.TheVariants.{Permit, Deny, NotApplicable, Indeterminate}
use Rattle.combining.specs.Wording.{decision_by}
use Rattle.trees.specs.declared.examples.Outcome.{Outcome}
use Rattle.trees.specs.declared.examples.Outcome.TheVariants as outcome
use Rattle.trees.specs.Expressions.{Map, applied}
use Rattle.trees.specs.Policies.{respond}
use Rattle.trees.specs.Parts.{policy_of}

-- what an operator gives on two values, an algorithm on its children's decisions, and a policy file over a map
pub data Question : Type 0 where
  operation : Operator → Value → Value → Question
  combination : Algorithm → List Decision → Question
  response : List ℕ → Map → Question

pub data Answer : Type 0 where
  value : Value → Answer
  decision : Decision → Answer
  refused : Answer

-- a file that is not accepted has no decision
abbrev pub decided : {E : Type 0} → Result (List Line) E → Map → Answer
decided (Ok ls) m = decision (respond m (policy_of ls)).decision
decided (Err e) m = refused

abbrev pub answer_to : Question → Answer
answer_to (operation op a b) = value (applied op a b)
answer_to (combination a ds) = decision (decision_by a ds)
answer_to (response file m) = decided (check_of file) m

abbrev pub answer_of : Outcome → Answer
answer_of (outcome.Value v) = value v
answer_of (outcome.Decision d) = decision d

-- each line with its line feed
abbrev pub file_of : List (List ℕ) → List ℕ
file_of [] = []
file_of (x ∷ xs) = x ++ 10 ∷ file_of xs

-- a grower may, and is to open the valve
abbrev pub grower_file : List ℕ
grower_file = file_of (
    codes "kind a b c d e"
    ∷ codes "attr sub/role - - - -"
    ∷ codes "text grower - - - -"
    ∷ codes "equal 1 2 - - -"
    ∷ codes "attr res/valve - - - -"
    ∷ codes "must 1 4 - - -"
    ∷ codes "permit 3 5 - - -"
    ∷ [])

-- a grower, but no valve
abbrev pub grower_alone : Map
grower_alone x = cond (bytes_eq x (codes "sub/role")) (text (codes "grower")) missing

abbrev pub questions : List Question
questions =
    operation And (boolean false) error
    ∷ operation Div (number (negsuc 6)) (number (pos 2))
    ∷ operation Div (number (negsuc 2147483647)) (number (negsuc 0))
    ∷ combination PermitOverrides (Deny ∷ Indeterminate ∷ [])
    ∷ combination OneApplicable (Permit ∷ Permit ∷ [])
    ∷ combination WeakConsensus (Permit ∷ NotApplicable ∷ [])
    ∷ combination StrongConsensus (Permit ∷ NotApplicable ∷ [])
    ∷ response grower_file grower_alone
    ∷ []
