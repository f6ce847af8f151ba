-- That no response of a line's policy has more duties than the line's number.
use Rattle.std.proofs.Common.{◌≡◌, ℕ, zero, suc, ◌+◌, ◌*◌, ◌<◌, ◌≤◌, Bool, true, false, cond, ◌||◌, eqb, List, [], ◌∷◌, ◌++◌, map, length, take, Some, None, Option, refl, ap, ◌∙◌, ⊎_elim, add-mul, arith, length-append}
use Rattle.std.proofs.lemmas.List.{get_or_push, length_push}
use Rattle.std.specs.List.{sum_by}
use Rattle.std.proofs.lemmas.List.Sums.{sum_by-cons, sum_by_push, sum_by-take-le, sum_by-le-sum_by}
use Rattle.std.proofs.lemmas.List.Concat.{length-flat_map}
use Rattle.std.proofs.lemmas.Bool.{cases_eq}
use Rattle.std.proofs.lemmas.Bool.Decides.{nat_tests}
use Rattle.values.specs.declared.value.Value.{Value}
use Rattle.spelling.specs.declared.algorithm.Strategy.{Strategy}
use Rattle.operators.specs.Classes.{is_true, is_false, is_missing}
use Rattle.combining.specs.declared.decision.Decision.{Decision}
use Rattle.combining.specs.declared.decision.Decision.TheVariants.{Permit, Deny, NotApplicable, Indeterminate}
use Rattle.combining.specs.Decisions.{same_decision}
use Rattle.combining.specs.Wording.{Wording, wording_of}
use Rattle.combining.specs.Combined.{Response, decision_of, visits, taken, joined, first_taken, duties_for, combined}
use Rattle.policy.specs.declared.line.Line.{Line}
use Rattle.policy.specs.declared.line.Line.TheVariants as l
use Rattle.policy.specs.declared.line.Family.TheVariants as family
use Rattle.policy.specs.Lines.{Reference, may_name, references}
use Rattle.policy.specs.Tree.{times, namings, Tree}
use Rattle.trees.specs.Expressions.{Expression, Map, value_of}
use Rattle.trees.specs.declared.duty.Duty.{Duty}
use Rattle.trees.specs.Duties.{Duties, none, then, all_fulfilled, dues_of}
use Rattle.trees.specs.Policies.{Policy, rule, set, Items, one, more, bare, on_target, decision_for, appended, closed, respond, first, rest}
use Rattle.trees.proofs.Grown.{kept}
use Rattle.trees.specs.Parts.{Part, expression, duties, items, policy, no_part, as_duties, as_items, as_policy, part_at, duties_at, part_for, parts_after, parts_of}

-- how many duties a part has below it

abbrev many : Duties → ℕ
many none = 0
many (then ds f a e) = many ds + 1

unfoldable mutual
  heavy : Policy → ℕ
  heavy (rule e t ds) = many ds
  heavy (set c t is p d) = heavies is + many p + many d

  heavies : Items → ℕ
  heavies (one p) = heavy p
  heavies (more is p) = heavies is + heavy p

abbrev weight : Part → ℕ
weight (expression e) = 0
weight (duties ds) = many ds
weight (items is) = heavies is
weight (policy p) = heavy p

-- a response has no more duties than its policy has below it

-- every duty of a chain is due
dues_many : (m : Map) (ds : Duties) → length (dues_of m ds) ≡ many ds
dues_many m none = refl
dues_many m (then ds f a e) =
    let h = dues_many m ds in
    let o : Duty = record { force = f; action = a; argument = value_of m e } in
    let k = length_push (dues_of m ds) o in
    omega (arith, h, k)

-- one of two responses, each with at most n duties
either_few : (b : Bool) (r s : Response Duty) (n : ℕ) → length r.duties ≤ n → length s.duties ≤ n → length (cond b r s).duties ≤ n
either_few true r s n h k = h
either_few false r s n h k = k

-- a target adds no duties
target_few : (v : Value) (r : Response Duty) (n : ℕ) → length r.duties ≤ n → length (on_target v r).duties ≤ n
target_few v r n h =
    either_few (is_true v) r _ n h (either_few (is_false v || is_missing v) (bare NotApplicable) (bare Indeterminate) n (omega arith) (omega arith))

-- a chain adds its own duties at most
appended-few : (m : Map) (ds : Duties) (r : Response Duty) (n : ℕ) → length r.duties + many ds ≤ n → length (appended m ds r).duties ≤ n
appended-few m ds r n h =
    let k = length-append r.duties (dues_of m ds) in
    let j = dues_many m ds in
    either_few (all_fulfilled m ds) (record { decision = r.decision; duties = r.duties ++ dues_of m ds }) (bare Indeterminate) n (omega (arith, h, k, j)) (omega arith)

-- a set adds the duties of both its chains at most
closed-few : (m : Map) (p d : Duties) (x : Decision) (r : Response Duty) (n : ℕ) → length r.duties + many p + many d ≤ n → length (closed m p d x r).duties ≤ n
closed-few m p d Permit r n h = appended-few m p r n (omega (arith, h))
closed-few m p d Deny r n h = appended-few m d r n (omega (arith, h))
closed-few m p d NotApplicable r n h = omega arith
closed-few m p d Indeterminate r n h = omega arith

-- how many duties all children have
abbrev all : List (Response Duty) → ℕ
all rs = sum_by (λ r. length r.duties) rs

-- one of two lists is no longer than both
one_or_few : (b : Bool) (xs ys : List Duty) (n : ℕ) → length ys ≤ n → length (cond b xs ys) ≤ length xs + n
one_or_few true xs ys n h = omega arith
one_or_few false xs ys n h = omega (arith, h)

-- the duties joined over the first n children are no more than those of all
joined-few : (d : Decision) (n : ℕ) (rs : List (Response Duty)) → length (joined d (take n rs)) ≤ all rs
joined-few d n rs =
    let e = length-flat_map (taken d) (take n rs) in
    let h = sum_by-take-le (λ r. length (taken d r)) rs n in
    let k = sum_by-le-sum_by (λ r. length (taken d r)) (λ r. length r.duties) rs few in
    omega (arith, e, h, k)
  where
    few : (r : Response Duty) → length (taken d r) ≤ length r.duties
    few r = let h = one_or_few (same_decision d r.decision) r.duties [] 0 (omega arith) in omega (arith, h)

-- and so those of the first child taken
first_few : (d : Decision) (n : ℕ) (rs : List (Response Duty)) → length (first_taken d (take n rs)) ≤ all rs
first_few d zero rs = omega arith
first_few d (suc n) [] = omega arith
first_few d (suc n) (r ∷ rs) =
    let h = one_or_few (same_decision d r.decision) r.duties (first_taken d (take n rs)) (all rs) (first_few d n rs) in
    let e = sum_by-cons (λ r. length r.duties) r rs in
    omega (arith, h, e)

duties_few : (w : Wording) (d : Decision) (n : ℕ) (rs : List (Response Duty)) → length (duties_for w d (take n rs)) ≤ all rs
duties_few w d n rs = by w.joins
  where
    by : (b : Bool) → length (cond b (joined d (take n rs)) (first_taken d (take n rs))) ≤ all rs
    by true = joined-few d n rs
    by false = first_few d n rs

-- a set's response has no more duties than all children
combined-few : (w : Wording) (s : Strategy) (r : Response Duty) (rs : List (Response Duty)) → length (combined w s r rs).duties ≤ all (r ∷ rs)
unfolding combined
combined-few w s r rs = duties_few w (combined w s r rs).decision (visits w s (r.decision ∷ []) (map decision_of rs)) (r ∷ rs)

mutual
  unfolding heavy respond

  -- the response of a policy
  policy_few : (m : Map) (p : Policy) → length (respond m p).duties ≤ heavy p
  policy_few m (rule e t ds) = target_few (value_of m t) _ _ (appended-few m ds (bare (decision_for e)) _ (omega arith))
  policy_few m (set c t is p d) =
      let r : Response Duty = combined (wording_of c.algorithm) c.strategy (first m is) (rest m is) in
      let h = combined-few (wording_of c.algorithm) c.strategy (first m is) (rest m is) in
      let k = items_few m is in
      target_few (value_of m t) _ _ (closed-few m p d r.decision r _ (omega (arith, h, k)))

  -- the responses of all items
  items_few : (m : Map) (is : Items) → all (first m is ∷ rest m is) ≤ heavies is
  items_few m (one p) = let h = policy_few m p in omega (arith, h)
  items_few m (more is p) =
      let h = items_few m is in
      let k = policy_few m p in
      let e = sum_by_push (λ r. length r.duties) (first m is ∷ rest m is) (respond m p) in
      omega (arith, h, k, e)

-- a part weighs at most one more than the parts that its line names

-- what the named parts weigh
abbrev sum_at : List Part → List Reference → ℕ
sum_at ps [] = 0
sum_at ps (r ∷ rs) = weight (part_at ps r.line) + sum_at ps rs

sum_at_append : (ps : List Part) (rs qs : List Reference) → sum_at ps (rs ++ qs) ≡ sum_at ps rs + sum_at ps qs
sum_at_append ps [] qs = omega arith
sum_at_append ps (r ∷ rs) qs = let h = sum_at_append ps rs qs in omega (arith, h)

-- what is read from a part of one family weighs no more than the part
duties_weigh : (p : Part) → many (as_duties p) ≤ weight p
duties_weigh (expression e) = omega arith
duties_weigh (duties ds) = omega arith
duties_weigh (items is) = omega arith
duties_weigh (policy p) = omega arith

items_weigh : (p : Part) → heavies (as_items p) ≤ weight p
unfolding heavy
items_weigh (expression e) = omega arith
items_weigh (duties ds) = omega arith
items_weigh (items is) = omega arith
items_weigh (policy p) = omega arith

policy_weighs : (p : Part) → heavy (as_policy p) ≤ weight p
unfolding heavy
policy_weighs (expression e) = omega arith
policy_weighs (duties ds) = omega arith
policy_weighs (items is) = omega arith
policy_weighs (policy p) = omega arith

-- and so a chain that may be named
chain_weighs : (ps : List Part) (o : Option ℕ) → many (duties_at ps o) ≤ sum_at ps (may_name family.Duty o)
chain_weighs ps None = omega arith
chain_weighs ps (Some k) = let h = duties_weigh (part_at ps k) in omega (arith, h)

-- line n's part, among the parts ps of the lines above
line_weighs : (leaf : ℕ → List ℕ → Expression) (n : ℕ) (ps : List Part) (x : Line) → weight (part_for leaf n ps x) ≤ sum_at ps (references x) + 1
unfolding heavy
line_weighs leaf n ps (l.Truth b) = omega arith
line_weighs leaf n ps (l.Attribute x) = omega arith
line_weighs leaf n ps (l.Number z) = omega arith
line_weighs leaf n ps (l.Text x) = omega arith
line_weighs leaf n ps (l.Not j) = omega arith
line_weighs leaf n ps (l.Binary o j k) = omega arith
line_weighs leaf n ps (l.Duty f a e d) = let h = chain_weighs ps d in omega (arith, h)
line_weighs leaf n ps (l.Item p None) = let h = policy_weighs (part_at ps p) in omega (arith, h)
line_weighs leaf n ps (l.Item p (Some k)) = let h = policy_weighs (part_at ps p) in let i = items_weigh (part_at ps k) in omega (arith, h, i)
line_weighs leaf n ps (l.Rule e t d) = let h = chain_weighs ps d in omega (arith, h)
line_weighs leaf n ps (l.Set c t i p d) =
    let h = items_weigh (part_at ps i) in
    let j = chain_weighs ps p in
    let k = chain_weighs ps d in
    let e = sum_at_append ps (may_name family.Duty p) (may_name family.Duty d) in
    omega (arith, h, j, k, e)

-- all parts together

abbrev total : List Part → ℕ
total ps = sum_by weight ps

-- all parts from line k on, that of line i as often as `often i`
abbrev counted : (ℕ → ℕ) → ℕ → List Part → ℕ
counted often k [] = 0
counted often k (p ∷ ps) = often k * weight p + counted often (k + 1) ps

-- counts add up
counted-add : (f g : ℕ → ℕ) (k : ℕ) (ps : List Part) → counted (λ i. f i + g i) k ps ≡ counted f k ps + counted g k ps
counted-add f g k [] = omega arith
counted-add f g k (p ∷ ps) =
    let h = counted-add f g (k + 1) ps in
    let e = add-mul (f k) (g k) (weight p) in
    omega (arith, h, e)

-- one more part counts no less
counted-push : (f : ℕ → ℕ) (k : ℕ) (ps : List Part) (p : Part) → counted f k ps ≤ counted f k (ps ++ p ∷ [])
counted-push f k [] p = omega arith
counted-push f k (q ∷ ps) p = let h = counted-push f (k + 1) ps p in omega (arith, h)

at_most_once : (n w : ℕ) → n ≤ 1 → n * w ≤ w
at_most_once zero w h = omega arith
at_most_once (suc zero) w h = omega arith
at_most_once (suc (suc n)) w h = absurd (omega (arith, h))

-- parts that are counted at most once weigh no more than all
counted-once : (f : ℕ → ℕ) (k : ℕ) (ps : List Part) → ((i : ℕ) → k ≤ i → i < k + length ps → f i ≤ 1) → counted f k ps ≤ total ps
counted-once f k [] h = omega arith
counted-once f k (p ∷ ps) h =
    let a = at_most_once (f k) (weight p) (h k (omega arith) (omega arith)) in
    let b = counted-once f (k + 1) ps (λ i lo hi. h i (omega arith) (omega arith)) in
    let e = sum_by-cons weight p ps in
    omega (arith, a, b, e)

-- a reference counts the part that it names
counted-one : (ps : List Part) (k n j : ℕ) → n ≡ k + j → weight (part_at ps k) ≤ counted (λ i. cond (eqb n i) 1 0) j ps
counted-one [] k n j e = omega arith
counted-one (p ∷ ps) zero n j e =
    let t : cond (eqb n j) 1 0 ≡ 1 = grind (arith, nat_tests) in
    let h = ap (λ c. c * weight p) t in
    omega (arith, h)
counted-one (p ∷ ps) (suc k) n j e = let h = counted-one ps k n (j + 1) (omega (arith, e)) in omega (arith, h)

-- references count all parts that they name
counted-times : (ps : List Part) (rs : List Reference) → sum_at ps rs ≤ counted (λ k. times k rs) 0 ps
counted-times ps [] = omega arith
counted-times ps (r ∷ rs) =
    let h = counted-one ps r.line r.line 0 (omega arith) in
    let k = counted-times ps rs in
    let e = counted-add (λ i. cond (eqb r.line i) 1 0) (λ i. times i rs) 0 ps in
    omega (arith, h, k, e)

-- Of the parts ps of the lines so far, line k's has been named `often k` times, and they weigh no more than what was named and one for each line.
-- Where no line above the last is named twice in all, a later part weighs no more than its line's number.
part_weighs : (leaf : ℕ → List ℕ → Expression) (ps : List Part) (often : ℕ → ℕ) (ls : List Line)
    → total (no_part ∷ ps) ≤ length ps + counted often 0 (no_part ∷ ps)
    → ((k : ℕ) → 0 < k → k < length ps + length ls → often k + namings k ls ≤ 1)
    → (n : ℕ) → length ps < n → n ≤ length ps + length ls → weight (part_at (parts_after leaf (no_part ∷ ps) ls) n) ≤ n
part_weighs leaf ps often [] b o n lo hi = absurd (omega (arith, lo, hi))
part_weighs leaf ps often (x ∷ ls) b o n lo hi =
    let p : Part = part_for leaf (length (no_part ∷ ps)) (no_part ∷ ps) x in
    let now : ℕ → ℕ = λ k. often k + times k (references x) in
    let long = length_push ps p in
    let here = line_weighs leaf (length (no_part ∷ ps)) (no_part ∷ ps) x in
    let named = counted-times (no_part ∷ ps) (references x) in
    let sum = counted-add often (λ k. times k (references x)) 0 (no_part ∷ ps) in
    let within : weight p + total (no_part ∷ ps) ≤ length ps + 1 + counted now 0 (no_part ∷ ps) = omega (arith, b, here, named, sum) in
    ⊎_elim
    (λ q.
    let single = counted-once now 1 ps (λ i up down. let h = o i (omega (arith, up)) (omega (arith, down)) in omega (arith, h)) in
    let is = ap weight (kept leaf (no_part ∷ (ps ++ p ∷ [])) ls n (omega (arith, long, q)) ∙ get_or_push (no_part ∷ ps) p no_part n (omega (arith, q))) in
    omega (arith, within, single, is, q))
    (λ q.
    let all-now = sum_by_push weight (no_part ∷ ps) p in
    let no_less = counted-push now 0 (no_part ∷ ps) p in
    part_weighs leaf (ps ++ p ∷ []) now ls (omega (arith, long, within, all-now, no_less))
    (λ k up down. let h = o k up (omega (arith, long, down)) in omega (arith, h)) n (omega (arith, long, lo, q)) (omega (arith, long, hi)))
    (cases_eq n (length ps + 1))

-- no response of line n's policy has more duties than n
pub few_at : (leaf : ℕ → List ℕ → Expression) (ls : List Line) → Tree ls → (n : ℕ) → 0 < n → n ≤ length ls → (m : Map) → length (respond m (as_policy (part_at (parts_of leaf ls) n))).duties ≤ n
unfolding parts_of
few_at leaf ls t n lo hi m =
    let a = policy_few m (as_policy (part_at (parts_of leaf ls) n)) in
    let b = policy_weighs (part_at (parts_of leaf ls) n) in
    let c = part_weighs leaf [] (λ k. 0) ls (omega arith) (λ k p q. let h = t.once k p (omega (arith, q)) in omega (arith, h)) n lo (omega (arith, hi)) in
    omega (arith, a, b, c)
