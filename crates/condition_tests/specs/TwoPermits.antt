-- A ninth algorithm: one deny settles it; without a deny, one indet does; without both, two permits give permit; anything else is not-app.
use Rattle.std.specs.Prelude.{◌≡◌, ℕ, Bool, true, false, cond, ◌&&◌, ◌||◌, List, [], ◌∷◌, ◌++◌}
use Rattle.std.specs.List.{list_any}
use Rattle.std.proofs.Common.{refl, ap, ◌∙◌, sym, true≢false, arith}
use Rattle.std.proofs.lemmas.List.Folds.{list_any-append}
use Rattle.std.proofs.Math.Bool.{or-false}
use Rattle.combining.specs.declared.decision.Decision.{Decision}
use Rattle.combining.specs.declared.decision.Decision.TheVariants as d
use Rattle.combining.specs.Decisions.{is_permit, is_deny, is_indeterminate, two}
use Rattle.combining.specs.Wording.{Wording, FinalStays}
use Rattle.condition_tests.specs.declared.two_permits.Seen.{Seen}
use Rattle.condition_tests.specs.declared.two_permits.Seen.TheVariants.{Neither, OnePermit, Permits, Indeterminate, Deny}

-- the wording
abbrev pub decided : List Decision → Decision
decided ds = cond (list_any is_deny ds) d.Deny (cond (list_any is_indeterminate ds) d.Indeterminate (cond (two is_permit ds) d.Permit d.NotApplicable))

abbrev pub two_permits : Wording
two_permits = record { decision = decided; is_final = is_deny; joins = true }

-- the running state: some child denies, some is indet, at least two permit, some permits
abbrev pub state_by : Bool → Bool → Bool → Bool → Seen
state_by denies unsure permits permit = cond denies Deny (cond unsure Indeterminate (cond permits Permits (cond permit OnePermit Neither)))

abbrev pub seen : List Decision → Seen
seen ds = state_by (list_any is_deny ds) (list_any is_indeterminate ds) (two is_permit ds) (list_any is_permit ds)

abbrev pub Reached : Seen → List Decision → Type 0
Reached s ds = s ≡ seen ds

abbrev pub number_of : Seen → ℕ
number_of Neither = 0
number_of OnePermit = 1
number_of Permits = 2
number_of Indeterminate = 3
number_of Deny = 4

-- one child more
abbrev pub permitted : Seen → Seen
permitted Neither = OnePermit
permitted OnePermit = Permits
permitted Permits = Permits
permitted Indeterminate = Indeterminate
permitted Deny = Deny

abbrev pub doubted : Seen → Seen
doubted Neither = Indeterminate
doubted OnePermit = Indeterminate
doubted Permits = Indeterminate
doubted Indeterminate = Indeterminate
doubted Deny = Deny

abbrev pub after_of : Seen → Decision → Seen
after_of s d.Permit = permitted s
after_of s d.Deny = Deny
after_of s d.NotApplicable = s
after_of s d.Indeterminate = doubted s

abbrev pub decision_in : Seen → Decision
decision_in Neither = d.NotApplicable
decision_in OnePermit = d.NotApplicable
decision_in Permits = d.Permit
decision_in Indeterminate = d.Indeterminate
decision_in Deny = d.Deny

-- the decision is that of the running state
decision_by : (a b c e : Bool) → cond a d.Deny (cond b d.Indeterminate (cond c d.Permit d.NotApplicable)) ≡ decision_in (state_by a b c e)
decision_by true b c e = refl
decision_by false true c e = refl
decision_by false false true e = refl
decision_by false false false true = refl
decision_by false false false false = refl

pub decision_seen : (ds : List Decision) → decided ds ≡ decision_in (seen ds)
decision_seen ds = decision_by (list_any is_deny ds) (list_any is_indeterminate ds) (two is_permit ds) (list_any is_permit ds)

abbrev Adds : Bool → Bool → Bool → Bool → Decision → Type 0
Adds a b c e x = state_by (a || is_deny x) (b || is_indeterminate x) (c || (e && is_permit x)) (e || is_permit x) ≡ after_of (state_by a b c e) x

adds : (a b c e : Bool) (x : Decision) → Adds a b c e x
adds true b c e d.Permit = refl
adds true b c e d.Deny = refl
adds true b c e d.NotApplicable = refl
adds true b c e d.Indeterminate = refl
adds false true c e d.Permit = refl
adds false true c e d.Deny = refl
adds false true c e d.NotApplicable = refl
adds false true c e d.Indeterminate = refl
adds false false true e d.Permit = refl
adds false false true e d.Deny = refl
adds false false true e d.NotApplicable = refl
adds false false true e d.Indeterminate = refl
adds false false false true d.Permit = refl
adds false false false true d.Deny = refl
adds false false false true d.NotApplicable = refl
adds false false false true d.Indeterminate = refl
adds false false false false d.Permit = refl
adds false false false false d.Deny = refl
adds false false false false d.NotApplicable = refl
adds false false false false d.Indeterminate = refl

-- what a list says with one child more
any_more : (p : Decision → Bool) (ds : List Decision) (x : Decision) → list_any p (ds ++ x ∷ []) ≡ (list_any p ds || p x)
any_more p ds x = list_any-append p ds (x ∷ []) ∙ ap (λ b. list_any p ds || b) (or-false (p x))

neither : (b : Bool) → cond b false false ≡ false
neither true = refl
neither false = refl

second : (b a c q : Bool) → cond b (a || q) (c || (a && q)) ≡ (cond b a c || ((b || a) && q))
second true a c q = refl
second false a c q = refl

two_more : (p : Decision → Bool) (ds : List Decision) (x : Decision) → two p (ds ++ x ∷ []) ≡ (two p ds || (list_any p ds && p x))
two_more p [] x = neither (p x)
two_more p (y ∷ ds) x =
    ap (λ b. cond (p y) b (two p (ds ++ x ∷ []))) (any_more p ds x)
    ∙ ap (cond (p y) (list_any p ds || p x)) (two_more p ds x)
    ∙ second (p y) (list_any p ds) (two p ds) (p x)

pub seen_more : (ds : List Decision) (x : Decision) → seen (ds ++ x ∷ []) ≡ after_of (seen ds) x
seen_more ds x =
    let ys = ds ++ x ∷ [] in
    ap (λ a. state_by a (list_any is_indeterminate ys) (two is_permit ys) (list_any is_permit ys)) (any_more is_deny ds x)
    ∙ ap (λ b. state_by (list_any is_deny ds || is_deny x) b (two is_permit ys) (list_any is_permit ys)) (any_more is_indeterminate ds x)
    ∙ ap (λ c. state_by (list_any is_deny ds || is_deny x) (list_any is_indeterminate ds || is_indeterminate x) c (list_any is_permit ys)) (two_more is_permit ds x)
    ∙ ap (state_by (list_any is_deny ds || is_deny x) (list_any is_indeterminate ds || is_indeterminate x) (two is_permit ds || (list_any is_permit ds && is_permit x))) (any_more is_permit ds x)
    ∙ adds (list_any is_deny ds) (list_any is_indeterminate ds) (two is_permit ds) (list_any is_permit ds) x

pub seen_first : (x : Decision) → after_of Neither x ≡ seen (x ∷ [])
seen_first d.Permit = refl
seen_first d.Deny = refl
seen_first d.NotApplicable = refl
seen_first d.Indeterminate = refl

deny_stays : (x : Decision) → after_of Deny x ≡ Deny
deny_stays d.Permit = refl
deny_stays d.Deny = refl
deny_stays d.NotApplicable = refl
deny_stays d.Indeterminate = refl

final_stays : (s : Seen) (x : Decision) → is_deny (decision_in s) ≡ true → decision_in (after_of s x) ≡ decision_in s
final_stays Neither x h = absurd (true≢false (sym h))
final_stays OnePermit x h = absurd (true≢false (sym h))
final_stays Permits x h = absurd (true≢false (sym h))
final_stays Indeterminate x h = absurd (true≢false (sym h))
final_stays Deny x h = ap decision_in (deny_stays x)

pub stays : FinalStays two_permits
stays ds x h = decision_seen (ds ++ x ∷ []) ∙ ap decision_in (seen_more ds x) ∙ final_stays (seen ds) x (ap is_deny (sym (decision_seen ds)) ∙ h) ∙ sym (decision_seen ds)

pub last_stays : (s : Seen) (ds : List Decision) (x : Decision) → number_of s ≡ 4 → Reached s ds → Reached s (ds ++ x ∷ [])
last_stays Neither ds x e r = absurd (omega (arith, e))
last_stays OnePermit ds x e r = absurd (omega (arith, e))
last_stays Permits ds x e r = absurd (omega (arith, e))
last_stays Indeterminate ds x e r = absurd (omega (arith, e))
last_stays Deny ds x e r = sym (deny_stays x) ∙ ap (λ s. after_of s x) r ∙ sym (seen_more ds x)
