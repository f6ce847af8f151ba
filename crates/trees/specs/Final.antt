-- What a further child does to a final response.
use Rattle.std.specs.Prelude.{◌≡◌, true, List, [], ◌∷◌, ◌++◌}
use Rattle.combining.specs.Wording.{Wording, FinalStays}
use Rattle.combining.specs.Combined.{Response, answer_on}
use Rattle.trees.specs.declared.duty.Duty.{Duty}

-- the second list begins with the first
abbrev pub Begins : {A : Type 0} → List A → List A → Type 0
Begins {A} xs ys = (zs : List A) × (ys ≡ xs ++ zs)

-- the response s follows the final response r
pub record StaysFinal (w : Wording) (r s : Response Duty) : Type 0 where
  pub final : w.is_final s.decision ≡ true
  pub decision : s.decision ≡ r.decision
  pub duties : Begins r.duties s.duties

-- a further child leaves a final response final and its decision alone, and can only add duties at its end;
-- this holds of every algorithm whose final decisions stay
abbrev pub FinalResponsesStay : Type 0
FinalResponsesStay = (w : Wording) → FinalStays w → (rs : List (Response Duty)) (q : Response Duty) → w.is_final (answer_on w rs).decision ≡ true → StaysFinal w (answer_on w rs) (answer_on w (rs ++ q ∷ []))
