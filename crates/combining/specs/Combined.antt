-- What a set makes of its children's responses.
use Rattle.std.specs.Prelude.{ℕ, Bool, false, cond, List, [], ◌∷◌, ◌++◌, map, length, take}
use Rattle.std.specs.List.{flat_map}
use Rattle.spelling.specs.declared.algorithm.Strategy.{Strategy}
use Rattle.spelling.specs.declared.algorithm.Strategy.TheVariants.{All, Greedy}
use Rattle.combining.specs.declared.decision.Decision.{Decision}
use Rattle.combining.specs.Decisions.{same_decision}
use Rattle.combining.specs.Wording.{Wording}

-- a decision with its duties in order, whatever a duty is
pub record Response (D : Type 0) : Type 0 where
  pub decision : Decision
  pub duties : List D

abbrev pub decision_of : {D : Type 0} → Response D → Decision
decision_of r = r.decision

-- whether a set stops after children on which the decision is final or not
abbrev pub stops : Strategy → Bool → Bool
stops All final = false
stops Greedy final = final

-- how many children are visited: those seen, and the others until the set stops
abbrev pub visits : Wording → Strategy → List Decision → List Decision → ℕ
visits w s seen [] = length seen
visits w s seen (d ∷ ds) = cond (stops s (w.is_final (w.decision seen))) (length seen) (visits w s (seen ++ d ∷ []) ds)

-- the duties of a child with the decision d, none of any other
abbrev pub taken : {D : Type 0} → Decision → Response D → List D
taken d r = cond (same_decision d r.decision) r.duties []

-- those of all children with the decision d, in order
abbrev pub joined : {D : Type 0} → Decision → List (Response D) → List D
joined d rs = flat_map (taken d) rs

-- those of the first child with the decision d
abbrev pub first_taken : {D : Type 0} → Decision → List (Response D) → List D
first_taken d [] = []
first_taken d (r ∷ rs) = cond (same_decision d r.decision) r.duties (first_taken d rs)

abbrev pub duties_for : {D : Type 0} → Wording → Decision → List (Response D) → List D
duties_for w d rs = cond w.joins (joined d rs) (first_taken d rs)

-- the response on the visited children
abbrev pub answer_on : {D : Type 0} → Wording → List (Response D) → Response D
answer_on w rs = record { decision = w.decision (map decision_of rs); duties = duties_for w (w.decision (map decision_of rs)) rs }

-- the response on a first child r and the others rs
unfoldable pub combined : {D : Type 0} → Wording → Strategy → Response D → List (Response D) → Response D
combined w s r rs = answer_on w (take (visits w s (r.decision ∷ []) (map decision_of rs)) (r ∷ rs))
