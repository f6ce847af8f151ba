-- What the parts of a policy's lines mean, once the readings are put in.
use Rattle.std.proofs.Common.{◌≡◌, ℕ, ◌+◌, ◌<◌, ◌≤◌, ◌&&◌, List, [], ◌∷◌, ◌++◌, Some, None, Option, sym, refl, ap, ◌∙◌, arith}
use Rattle.spelling.specs.declared.algorithm.Combining.{Combining}
use Rattle.values.specs.declared.value.Value.{Value}
use Rattle.values.specs.declared.value.Value.TheVariants.{Error as error}
use Rattle.policy.specs.declared.line.Line.{Line}
use Rattle.policy.specs.declared.line.Line.TheVariants as l
use Rattle.policy.specs.declared.line.Operator.{Operator}
use Rattle.policy.specs.declared.line.Force.{Force}
use Rattle.policy.specs.declared.line.Force.TheVariants.{May}
use Rattle.policy.specs.declared.line.Effect.{Effect}
use Rattle.policy.specs.declared.line.Family.{Family}
use Rattle.policy.specs.Lines.{may_name}
use Rattle.combining.specs.declared.decision.Decision.{Decision}
use Rattle.combining.specs.declared.decision.Decision.TheVariants.{Indeterminate}
use Rattle.trees.specs.Expressions.{value_of}
use Rattle.combining.specs.Combined.{Response}
use Rattle.trees.specs.declared.duty.Duty.{Duty}
use Rattle.trees.specs.Duties.{none, all_fulfilled, dues_of, fulfils}
use Rattle.trees.specs.Policies.{respond, one, bare, on_target, appended, decision_for}
use Rattle.trees.specs.Parts.{Part, part_at, part_for, as_expression, as_duties, as_items, as_policy, no_policy}
use Rattle.trees.specs.Known.{known as known_leaf, nothing}
use Rattle.trees.proofs.Grown.{grown, rests, below, below-append}
use Rattle.deciding.specs.declared.known.Known.{Known}
use Rattle.deciding.specs.Known.{size, line_of, parts, value_at, duties_of, items_at, responses_of, response_at, due, due_from, due_at, Within}
use Rattle.deciding.specs.Kept.{set_response, ended_by}

-- the part of line n, which is x
abbrev part_from : Known → ℕ → Line → Part
part_from known n x = part_for (known_leaf known.readings.now) n (parts known) x

-- how high a chain of lines is that ends there, at most
abbrev pub height : Option ℕ → ℕ
height None = 0
height (Some k) = k + 1

-- the responses of the items before one
abbrev pub earlier_responses : Known → Option ℕ → List (Response Duty)
earlier_responses known None = []
earlier_responses known (Some k) = responses_of (items_at known k)

-- a line that may be named above line n may be named
may_within : (known : Known) (n : ℕ) (g : Family) (o : Option ℕ) → n ≤ size known → below n (may_name g o) → Within (size known) o
may_within known n g None h b = tt
may_within known n g (Some k) h b = (b.0, let c = b.1 in omega (arith, c))

pub due-is : (known : Known) (n : ℕ) (x : Line) → x ≡ line_of known n → due_at known n ≡ due_from (parts known) x
unfolding due_at
due-is known n x f = ap (due_from (parts known)) (sym f)

-- a line that is no duty
pub no_due : (ps : List Part) (x : Line) → ((g : Force) (b e : ℕ) (d : Option ℕ) → x ≡ l.Duty g b e d → ⊥) → due_from ps x ≡ due May 0 error
no_due ps (l.Truth b) r = refl
no_due ps (l.Attribute y) r = refl
no_due ps (l.Number z) r = refl
no_due ps (l.Text y) r = refl
no_due ps (l.Not j) r = refl
no_due ps (l.Binary o j k) r = refl
no_due ps (l.Duty g b e d) r = absurd (r g b e d refl)
no_due ps (l.Item p i) r = refl
no_due ps (l.Rule e t d) r = refl
no_due ps (l.Set c t i p d) r = refl

module _ (known : Known) (n : ℕ) (lo : 0 < n) (hi : n ≤ size known) where
  part_is : (x : Line) → x ≡ line_of known n → part_at (parts known) n ≡ part_from known n x
  part_is x f = grown (known_leaf known.readings.now) known.lines.now known.tree.above n lo hi (sym f)

  pub value_is : (x : Line) → x ≡ line_of known n → value_at known n ≡ value_of nothing (as_expression (part_from known n x))
  value_is x f = ap (λ p. value_of nothing (as_expression p)) (part_is x f)

  -- a line that is no expression
  pub no_value : (x : Line) → x ≡ line_of known n
      → ((b : _) → x ≡ l.Truth b → ⊥) → ((y : _) → x ≡ l.Attribute y → ⊥) → ((z : _) → x ≡ l.Number z → ⊥) → ((y : _) → x ≡ l.Text y → ⊥) → ((j : ℕ) → x ≡ l.Not j → ⊥) → ((o : Operator) (j k : ℕ) → x ≡ l.Binary o j k → ⊥)
      → value_at known n ≡ error
  no_value x f r s t u v w = value_is x f ∙ by x r s t u v w
    where
      by : (y : Line) → ((b : _) → y ≡ l.Truth b → ⊥) → ((z : _) → y ≡ l.Attribute z → ⊥) → ((z : _) → y ≡ l.Number z → ⊥) → ((z : _) → y ≡ l.Text z → ⊥) → ((j : ℕ) → y ≡ l.Not j → ⊥) → ((o : Operator) (j k : ℕ) → y ≡ l.Binary o j k → ⊥)
          → value_of nothing (as_expression (part_from known n y)) ≡ error
      by (l.Truth b) r s t u v w = absurd (r b refl)
      by (l.Attribute y) r s t u v w = absurd (s y refl)
      by (l.Number z) r s t u v w = absurd (t z refl)
      by (l.Text y) r s t u v w = absurd (u y refl)
      by (l.Not j) r s t u v w = absurd (v j refl)
      by (l.Binary o j k) r s t u v w = absurd (w o j k refl)
      by (l.Duty g b e d) r s t u v w = refl
      by (l.Item p i) r s t u v w = refl
      by (l.Rule e t' d) r s t u v w = refl
      by (l.Set c t' i p d) r s t u v w = refl

  -- the duties of a chain that ends with line n
  chain_is : {o : Option ℕ} → o ≡ Some n → (x : Line) → x ≡ line_of known n → duties_of known o ≡ as_duties (part_from known n x)
  chain_is q x f = ap (duties_of known) q ∙ ap as_duties (part_is x f)

  pub no_chain : {o : Option ℕ} → o ≡ Some n → (x : Line) → x ≡ line_of known n → ((g : Force) (b e : ℕ) (d : Option ℕ) → x ≡ l.Duty g b e d → ⊥) → duties_of known o ≡ none
  no_chain q x f r = chain_is q x f ∙ by x r
    where
      by : (y : Line) → ((g : Force) (b e : ℕ) (d : Option ℕ) → y ≡ l.Duty g b e d → ⊥) → as_duties (part_from known n y) ≡ none
      by (l.Truth b) r = refl
      by (l.Attribute y) r = refl
      by (l.Number z) r = refl
      by (l.Text y) r = refl
      by (l.Not j) r = refl
      by (l.Binary o j k) r = refl
      by (l.Duty g b e d) r = absurd (r g b e d refl)
      by (l.Item p i) r = refl
      by (l.Rule e t d) r = refl
      by (l.Set c t i p d) r = refl

  -- a chain is fulfilled if the earlier one and its last duty are
  pub chain_fulfilled : {o : Option ℕ} → o ≡ Some n → {g : Force} {b e : ℕ} {d : Option ℕ} → l.Duty g b e d ≡ line_of known n
      → all_fulfilled nothing (duties_of known o) ≡ (all_fulfilled nothing (duties_of known d) && fulfils (value_at known e))
  chain_fulfilled q f = ap (all_fulfilled nothing) (chain_is q _ f)

  pub duty_within : {g : Force} {b e : ℕ} {d : Option ℕ} → l.Duty g b e d ≡ line_of known n → (0 < e) × (e < n) × Within (size known) d
  duty_within {g} {b} {e} {d} f =
      let r = rests (known_leaf known.readings.now) known.lines.now known.tree.above n lo hi (sym f) in
      (r.0, r.1, may_within known n _ d hi r.2)

  -- the dues of a chain are those of the earlier one and the last line's
  pub chain_dues : {o : Option ℕ} → o ≡ Some n → {g : Force} {b e : ℕ} {d : Option ℕ} → l.Duty g b e d ≡ line_of known n
      → dues_of nothing (duties_of known o) ≡ dues_of nothing (duties_of known d) ++ due_at known n ∷ []
  chain_dues q {g} {b} {e} {d} f =
      ap (dues_of nothing) (chain_is q _ f) ∙ ap (λ x. dues_of nothing (duties_of known d) ++ x ∷ []) (sym (due-is known n _ f))

  -- what a chain of items that ends with line n responds
  pub items_are : {p : ℕ} (i : Option ℕ) → l.Item p i ≡ line_of known n → responses_of (items_at known n) ≡ earlier_responses known i ++ response_at known p ∷ []
  unfolding respond
  items_are None f = ap (λ x. responses_of (as_items x)) (part_is _ f)
  items_are (Some k) f = ap (λ x. responses_of (as_items x)) (part_is _ f)

  pub no_items : (x : Line) → x ≡ line_of known n → ((p : ℕ) (i : Option ℕ) → x ≡ l.Item p i → ⊥) → responses_of (items_at known n) ≡ bare Indeterminate ∷ []
  unfolding respond
  no_items x f r = ap (λ x. responses_of (as_items x)) (part_is x f) ∙ ap responses_of (by x r)
    where
      by : (y : Line) → ((p : ℕ) (i : Option ℕ) → y ≡ l.Item p i → ⊥) → as_items (part_from known n y) ≡ one no_policy
      by (l.Truth b) r = refl
      by (l.Attribute y) r = refl
      by (l.Number z) r = refl
      by (l.Text y) r = refl
      by (l.Not j) r = refl
      by (l.Binary o j k) r = refl
      by (l.Duty g b e d) r = refl
      by (l.Item p i) r = absurd (r p i refl)
      by (l.Rule e t d) r = refl
      by (l.Set c t i p d) r = refl

  pub item_below : {p : ℕ} {i : Option ℕ} → l.Item p i ≡ line_of known n → (0 < p) × (p < n)
  item_below f = let r = rests (known_leaf known.readings.now) known.lines.now known.tree.above n lo hi (sym f) in (r.0, r.1)

  pub earlier_below : {p k : ℕ} {i : Option ℕ} → l.Item p i ≡ line_of known n → i ≡ Some k → (0 < k) × (k < n)
  earlier_below {p} {k} {i} f q =
      let r = rests (known_leaf known.readings.now) known.lines.now known.tree.above n lo hi (sym (ap (l.Item p) (sym q) ∙ f)) in
      (r.2.0, r.2.1)

  -- the response of line n's policy, by what its target's value decides
  module _ {v : Value} (o : Option Decision) (ends : (x : Response Duty) → on_target v x ≡ ended_by o x) where
    pub rule_is : {e : Effect} {t : ℕ} {d : Option ℕ} → l.Rule e t d ≡ line_of known n → v ≡ value_at known t
        → response_at known n ≡ ended_by o (appended nothing (duties_of known d) (bare (decision_for e)))
    unfolding respond
    rule_is {e} {t} {d} f q =
        let x : Response Duty = appended nothing (duties_of known d) (bare (decision_for e)) in
        ap (λ y. respond nothing (as_policy y)) (part_is _ f) ∙ ap (λ w. on_target w x) (sym q) ∙ ends x

    pub set-line_is : {c : Combining} {t i : ℕ} {p d : Option ℕ} → l.Set c t i p d ≡ line_of known n → v ≡ value_at known t
        → response_at known n ≡ ended_by o (set_response known c i (record { on_permit = p; on_deny = d }))
    unfolding respond
    set-line_is {c} {t} {i} {p} {d} f q =
        let x : Response Duty = set_response known c i (record { on_permit = p; on_deny = d }) in
        ap (λ y. respond nothing (as_policy y)) (part_is _ f) ∙ ap (λ w. on_target w x) (sym q) ∙ ends x

  pub no_response_lem : (x : Line) → x ≡ line_of known n → ((e : Effect) (t : ℕ) (d : Option ℕ) → x ≡ l.Rule e t d → ⊥) → ((c : Combining) (t i : ℕ) (p d : Option ℕ) → x ≡ l.Set c t i p d → ⊥) → response_at known n ≡ bare Indeterminate
  unfolding respond
  no_response_lem x f r s = ap (λ x. respond nothing (as_policy x)) (part_is x f) ∙ ap (respond nothing) (by x r s)
    where
      by : (y : Line) → ((e : Effect) (t : ℕ) (d : Option ℕ) → y ≡ l.Rule e t d → ⊥) → ((c : Combining) (t i : ℕ) (p d : Option ℕ) → y ≡ l.Set c t i p d → ⊥) → as_policy (part_from known n y) ≡ no_policy
      by (l.Truth b) r s = refl
      by (l.Attribute y) r s = refl
      by (l.Number z) r s = refl
      by (l.Text y) r s = refl
      by (l.Not j) r s = refl
      by (l.Binary o j k) r s = refl
      by (l.Duty g b e d) r s = refl
      by (l.Item p i) r s = refl
      by (l.Rule e t d) r s = absurd (r e t d refl)
      by (l.Set c t i p d) r s = absurd (s c t i p d refl)

  pub set-within : {c : Combining} {t i : ℕ} {p d : Option ℕ} → l.Set c t i p d ≡ line_of known n → Within (size known) p × Within (size known) d
  set-within {c} {t} {i} {p} {d} f =
      let r = rests (known_leaf known.readings.now) known.lines.now known.tree.above n lo hi (sym f) in
      let b = below-append n (may_name _ p) (may_name _ d) r.2.2 in
      (may_within known n _ p hi b.0, may_within known n _ d hi b.1)
