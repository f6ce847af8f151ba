-- That a table of entries gives the wording, for all eight algorithms at once.
use Rattle.std.specs.Prelude.{◌≡◌, Bool, true, false, cond, ◌&&◌, ◌||◌, T, List, [], ◌∷◌, ◌++◌, slice_index_or, refl}
use Rattle.std.specs.List.{list_any}
use Rattle.std.proofs.Common.{sym, ◌∙◌, ap, subst, true≢false, eqb→eq}
use Rattle.std.proofs.Math.Bool.{or-true}
use Rattle.spelling.specs.declared.algorithm.Algorithm.{Algorithm}
use Rattle.spelling.specs.declared.algorithm.Algorithm.TheVariants.{PermitOverrides, DenyOverrides, DenyUnlessPermit, PermitUnlessDeny, FirstApplicable, OneApplicable, WeakConsensus, StrongConsensus}
use denote.Enum.Declared.{tag_of}
use denote.Enum.Bare.{sameb, tag_one}
use Rattle.combining.specs.contracts.decision.Decision.{the_type}
use Rattle.combining.specs.declared.decision.Decision.{Decision}
use Rattle.combining.specs.declared.decision.Decision.TheVariants.{Permit, Deny, NotApplicable, Indeterminate}
use Rattle.combining.specs.Decisions.{same_decision, is_indeterminate}
use Rattle.combining.specs.Wording.{decision_by, is_final_by, wording_of, FinalStays}
use Rattle.combining.specs.Table.{place, entry, each, agrees}

left : (a b : Bool) → T (a && b) → T a
left true b h = tt
left false b h = h

right : (a b : Bool) → T (a && b) → T b
right true b h = h
right false b h = absurd h

-- what a test of all four decisions says of one
each_at : (p : Decision → Bool) → T (each p) → (d : Decision) → T (p d)
each_at p h Permit = left (p Permit) (p Deny) (left (p Permit && p Deny) (p NotApplicable) (left (p Permit && p Deny && p NotApplicable) (p Indeterminate) h))
each_at p h Deny = right (p Permit) (p Deny) (left (p Permit && p Deny) (p NotApplicable) (left (p Permit && p Deny && p NotApplicable) (p Indeterminate) h))
each_at p h NotApplicable = right (p Permit && p Deny) (p NotApplicable) (left (p Permit && p Deny && p NotApplicable) (p Indeterminate) h)
each_at p h Indeterminate = right (p Permit && p Deny && p NotApplicable) (p Indeterminate) h

-- a fact about all four decisions
abbrev Row : (Decision → Type 0) → Type 0
Row P = P Permit × P Deny × P NotApplicable × P Indeterminate

at_one : (P : Decision → Type 0) → Row P → (d : Decision) → P d
at_one P h Permit = h.0
at_one P h Deny = h.1
at_one P h NotApplicable = h.2
at_one P h Indeterminate = h.3

at_pair : (P : Decision → Decision → Type 0) → Row (λ a. Row (P a)) → (a b : Decision) → P a b
at_pair P h a b = at_one (P a) (at_one (λ a. Row (P a)) h a) b

-- a comparison of decisions, which compares the places of their variants, is `same_decision`
pub sameb-same_decision : (a b : Decision) → sameb the_type a b ≡ same_decision a b
sameb-same_decision a b = at_pair (λ a b. sameb the_type a b ≡ same_decision a b) ((refl, refl, refl, refl), (refl, refl, refl, refl), (refl, refl, refl, refl), (refl, refl, refl, refl)) a b

pub same_eq : (a b : Decision) → T (same_decision a b) → a ≡ b
same_eq a b h = tag_one the_type tt a b (eqb→eq (tag_of the_type a) (tag_of the_type b) (subst T (sym (sameb-same_decision a b)) h))

-- what the test of a table says of one entry
pub agrees_at : (a : Algorithm) (t : List (List Decision)) → T (agrees a t) → (s d : Decision) → slice_index_or (slice_index_or t (place s) []) (place d) Permit ≡ entry a s d
agrees_at a t h s d =
    same_eq (slice_index_or (slice_index_or t (place s) []) (place d) Permit) (entry a s d)
    (each_at (λ d. same_decision (slice_index_or (slice_index_or t (place s) []) (place d) Permit) (entry a s d)) (each_at (λ s. each (λ d. same_decision (slice_index_or (slice_index_or t (place s) []) (place d) Permit) (entry a s d))) h s) d)

-- a fact about all eight algorithms
at_algorithm : (P : Algorithm → Type 0)
    → P PermitOverrides × P DenyOverrides × P DenyUnlessPermit × P PermitUnlessDeny × P FirstApplicable × P OneApplicable × P WeakConsensus × P StrongConsensus
    → (a : Algorithm) → P a
at_algorithm P h PermitOverrides = h.0
at_algorithm P h DenyOverrides = h.1
at_algorithm P h DenyUnlessPermit = h.2
at_algorithm P h PermitUnlessDeny = h.3
at_algorithm P h FirstApplicable = h.4
at_algorithm P h OneApplicable = h.5
at_algorithm P h WeakConsensus = h.6
at_algorithm P h StrongConsensus = h.7

-- a rule of every entry, from a test that is computed
abbrev Tested : (Algorithm → Decision → Decision → Bool) → Algorithm → Type 0
Tested p a = T (each (λ s. each (p a s)))

rule : (p : Algorithm → Decision → Decision → Bool) → ((a : Algorithm) → Tested p a) → (a : Algorithm) (s d : Decision) → T (p a s d)
rule p h a s d = each_at (p a s) (each_at (λ s. each (p a s)) (h a) s) d

-- a final decision is its own entry, whatever the child decides
abbrev kept : Algorithm → Decision → Decision → Bool
kept a s d = cond (is_final_by a s) (same_decision (entry a s d) s) true

kept_at : (a : Algorithm) (s d : Decision) → is_final_by a s ≡ true → entry a s d ≡ s
kept_at a s d h = same_eq (entry a s d) s (rw h at (rule kept (at_algorithm (Tested kept) (tt, tt, tt, tt, tt, tt, tt, tt)) a s d))

-- the decision on one child stands for that child
abbrev begun : Algorithm → Decision → Decision → Bool
begun a s d = same_decision (entry a s d) (entry a (decision_by a (s ∷ [])) d)

begun-at : (a : Algorithm) (s d : Decision) → entry a s d ≡ entry a (decision_by a (s ∷ [])) d
begun-at a s d = same_eq (entry a s d) (entry a (decision_by a (s ∷ [])) d) (rule begun (at_algorithm (Tested begun) (tt, tt, tt, tt, tt, tt, tt, tt)) a s d)

abbrev Merges : Algorithm → List Decision → Decision → Decision → Type 0
Merges a ds s d = decision_by a (s ∷ d ∷ ds) ≡ decision_by a (entry a s d ∷ ds)

-- two effects clash, whatever the other children decide
clash : (b : Bool) (d : Decision) → cond (b || true) Indeterminate d ≡ Indeterminate
clash b d = ap (λ t. cond t Indeterminate d) (or-true b)

-- the first two children count as their entry
merge : (a : Algorithm) (s d : Decision) (ds : List Decision) → decision_by a (s ∷ d ∷ ds) ≡ decision_by a (entry a s d ∷ ds)
merge PermitOverrides s d ds = at_pair (Merges PermitOverrides ds) ((refl, refl, refl, refl), (refl, refl, refl, refl), (refl, refl, refl, refl), (refl, refl, refl, refl)) s d
merge DenyOverrides s d ds = at_pair (Merges DenyOverrides ds) ((refl, refl, refl, refl), (refl, refl, refl, refl), (refl, refl, refl, refl), (refl, refl, refl, refl)) s d
merge DenyUnlessPermit s d ds = at_pair (Merges DenyUnlessPermit ds) ((refl, refl, refl, refl), (refl, refl, refl, refl), (refl, refl, refl, refl), (refl, refl, refl, refl)) s d
merge PermitUnlessDeny s d ds = at_pair (Merges PermitUnlessDeny ds) ((refl, refl, refl, refl), (refl, refl, refl, refl), (refl, refl, refl, refl), (refl, refl, refl, refl)) s d
merge FirstApplicable s d ds = at_pair (Merges FirstApplicable ds) ((refl, refl, refl, refl), (refl, refl, refl, refl), (refl, refl, refl, refl), (refl, refl, refl, refl)) s d
merge OneApplicable s d ds =
    let c : (x : Decision) → cond (list_any is_indeterminate ds || true) Indeterminate x ≡ Indeterminate = clash (list_any is_indeterminate ds) in
    at_pair (Merges OneApplicable ds) ((c _, c _, refl, refl), (c _, c _, refl, refl), (refl, refl, refl, refl), (refl, refl, refl, refl)) s d
merge WeakConsensus s d ds =
    let c : (x : Decision) → cond (list_any is_indeterminate ds || true) Indeterminate x ≡ Indeterminate = clash (list_any is_indeterminate ds) in
    at_pair (Merges WeakConsensus ds) ((refl, c _, refl, refl), (c _, refl, refl, refl), (refl, refl, refl, refl), (refl, refl, refl, refl)) s d
merge StrongConsensus s d ds = at_pair (Merges StrongConsensus ds) ((refl, refl, refl, refl), (refl, refl, refl, refl), (refl, refl, refl, refl), (refl, refl, refl, refl)) s d

-- one child more: the entry of the decision so far and the child's
pub one_more : (a : Algorithm) (s : Decision) (ds : List Decision) (d : Decision) → decision_by a ((s ∷ ds) ++ d ∷ []) ≡ entry a (decision_by a (s ∷ ds)) d
one_more a s [] d = begun-at a s d
one_more a s (x ∷ ds) d = merge a s x (ds ++ d ∷ []) ∙ one_more a (entry a s x) ds d ∙ ap (λ t. entry a t d) (sym (merge a s x ds))

pub stays_by : (a : Algorithm) → FinalStays (wording_of a)
stays_by a [] d h = absurd (true≢false (sym h ∙ at_algorithm (λ a. is_final_by a (decision_by a []) ≡ false) (refl, refl, refl, refl, refl, refl, refl, refl) a))
stays_by a (s ∷ ds) d h = one_more a s ds d ∙ kept_at a (decision_by a (s ∷ ds)) d h
