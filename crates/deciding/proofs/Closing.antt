-- A set's combined response, and a policy's own duties after it.
use Rattle.std.proofs.Common.{◌≡◌, ℕ, true, cond, List, [], ◌∷◌, ◌++◌, map, take, ap, ◌∙◌, sym}
use Rattle.std.proofs.lemmas.List.{take-map}
use Rattle.std.proofs.lemmas.Simd.{map-map}
use Rattle.spelling.specs.declared.algorithm.Combining.{Combining}
use Rattle.combining.specs.declared.decision.Decision.{Decision}
use Rattle.combining.specs.declared.decision.Decision.TheVariants.{Indeterminate}
use Rattle.combining.specs.Wording.{Wording, wording_of, joins_by}
use Rattle.combining.specs.Combined.{Response, decision_of, visits, combined, answer_on, duties_for}
use Rattle.trees.specs.Expressions.{Map}
use Rattle.trees.specs.declared.duty.Duty.{Duty}
use Rattle.trees.specs.Duties.{Duties, all_fulfilled, dues_of}
use Rattle.trees.specs.Policies.{bare, appended, closed, closed_by, combined_by, first, rest}
use Rattle.trees.specs.Known.{nothing}
use Rattle.deciding.specs.declared.known.Known.{Known}
use Rattle.deciding.specs.declared.kept.Kept.{Kept}
use Rattle.deciding.specs.declared.taken.Taken.{Taken}
use Rattle.deciding.specs.declared.duties.OwnDuties.{OwnDuties}
use Rattle.deciding.specs.Known.{duties_of, items_at}
use Rattle.deciding.specs.Kept.{duties_by, response_in, taken_from, set_response}

-- what the fold over the children's decisions gives is the set's response
pub combined-is : (c : Combining) (os : List Duty) (k : Kept) (ks : List Kept) (r : Response Duty) (rs : List (Response Duty)) (v : ℕ) (d : Decision)
    → map (response_in os) (k ∷ ks) ≡ r ∷ rs
    → v ≡ visits (wording_of c.algorithm) c.strategy (k.decision ∷ []) (map (λ (j : Kept). j.decision) ks) → d ≡ (wording_of c.algorithm).decision (map (λ (j : Kept). j.decision) (take v (k ∷ ks)))
    → combined_by c r rs ≡ record { decision = d; duties = duties_by (joins_by c.algorithm) d (map (response_in os) (take v (k ∷ ks))) }
unfolding combined
combined-is c os k ks r rs v d e ev ed =
    let w : Wording = wording_of c.algorithm in
    let er : r ≡ response_in os k = cc in
    let es : rs ≡ map (response_in os) ks = cc in
    let n : visits w c.strategy (k.decision ∷ []) (map decision_of (map (response_in os) ks)) ≡ v = ap (visits w c.strategy (k.decision ∷ [])) (map-map decision_of (response_in os) ks) ∙ sym ev in
    let q : w.decision (map decision_of (map (response_in os) (take v (k ∷ ks)))) ≡ d = ap w.decision (map-map decision_of (response_in os) (take v (k ∷ ks))) ∙ sym ed in
    ap (λ x. combined_by c x rs) er ∙ ap (λ xs. combined_by c (response_in os k) xs) es
    ∙ ap (λ i. answer_on w (take i (map (response_in os) (k ∷ ks)))) n ∙ ap (answer_on w) (take-map (response_in os) v (k ∷ ks))
    ∙ ap (λ x. record { decision = x; duties = duties_for w x (map (response_in os) (take v (k ∷ ks))) }) q

module _ (m : Map) (ds : Duties) (r : Response Duty) where
  pub appended-all : all_fulfilled m ds ≡ true → appended m ds r ≡ record { decision = r.decision; duties = r.duties ++ dues_of m ds }
  appended-all h = let R : Response Duty = record { decision = r.decision; duties = r.duties ++ dues_of m ds } in ap (λ b. cond b R (bare Indeterminate)) h

-- what is taken from the children is the combined response, and closed it is the set's
pub set_is : (known : Known) (c : Combining) (i : ℕ) (own : OwnDuties) (t : Taken) (os : List Duty) → combined_by c (first nothing (items_at known i)) (rest nothing (items_at known i)) ≡ taken_from t os
    → set_response known c i own ≡ closed nothing (duties_of known own.on_permit) (duties_of known own.on_deny) t.decision (taken_from t os)
set_is known c i own t os e = ap (closed_by nothing (duties_of known own.on_permit) (duties_of known own.on_deny)) e
