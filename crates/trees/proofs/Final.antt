-- A final response and one more child.
use Rattle.std.proofs.Common.{◌≡◌, Bool, true, false, cond, List, [], ◌∷◌, ◌++◌, map, sym, refl, ap, ◌∙◌, subst}
use Rattle.std.proofs.lemmas.List.{append-nil, map-append}
use Rattle.std.proofs.lemmas.Grind.{flat_map-append}
use Rattle.combining.specs.declared.decision.Decision.{Decision}
use Rattle.combining.specs.Decisions.{same_decision}
use Rattle.combining.specs.Wording.{Wording, FinalStays}
use Rattle.combining.specs.Combined.{Response, decision_of, taken, joined, first_taken, duties_for, answer_on}
use Rattle.trees.specs.declared.duty.Duty.{Duty}
use Rattle.trees.specs.Final.{Begins, StaysFinal}

joined-begins : (d : Decision) (rs : List (Response Duty)) (q : Response Duty) → joined d (rs ++ q ∷ []) ≡ joined d rs ++ taken d q
joined-begins d rs q = flat_map-append (taken d) rs (q ∷ []) ∙ ap (λ xs. joined d rs ++ xs) (append-nil (taken d q))

first_begins : (d : Decision) (rs : List (Response Duty)) (q : Response Duty) → Begins (first_taken d rs) (first_taken d (rs ++ q ∷ []))
first_begins d [] q = (first_taken d (q ∷ []), refl)
first_begins d (r ∷ rs) q = by (same_decision d r.decision) (first_begins d rs q)
  where
    by : (b : Bool) → Begins (first_taken d rs) (first_taken d (rs ++ q ∷ [])) → Begins (cond b r.duties (first_taken d rs)) (cond b r.duties (first_taken d (rs ++ q ∷ [])))
    by true h = ([], sym (append-nil r.duties))
    by false h = h

duties_begin : (b : Bool) (d : Decision) (rs : List (Response Duty)) (q : Response Duty) → Begins (cond b (joined d rs) (first_taken d rs)) (cond b (joined d (rs ++ q ∷ [])) (first_taken d (rs ++ q ∷ [])))
duties_begin true d rs q = (taken d q, joined-begins d rs q)
duties_begin false d rs q = first_begins d rs q

pub final_stays : (w : Wording) → FinalStays w → (rs : List (Response Duty)) (q : Response Duty) → w.is_final (answer_on w rs).decision ≡ true → StaysFinal w (answer_on w rs) (answer_on w (rs ++ q ∷ []))
final_stays w s rs q h =
    let e : w.decision (map decision_of (rs ++ q ∷ [])) ≡ w.decision (map decision_of rs) = ap w.decision (map-append decision_of rs (q ∷ [])) ∙ s (map decision_of rs) (decision_of q) h in
    let P : Decision → Type 0 = λ d. Begins (duties_for w (w.decision (map decision_of rs)) rs) (duties_for w d (rs ++ q ∷ [])) in
    record { final = ap w.is_final e ∙ h; decision = e; duties = subst P (sym e) (duties_begin w.joins (w.decision (map decision_of rs)) rs q) }
