-- What is written for a line says what its part says, where this holds of the lines above it.
use Rattle.std.proofs.Common.{◌≡◌, ℕ, ◌+◌, ◌<◌, ◌≤◌, inl, inr, slice_set, true, List, [], ◌∷◌, ◌++◌, length, Some, None, Option, refl, sym, ap, ◌∙◌, subst, true≢false, arith}
use Rattle.std.specs.Prelude.{◌&&◌, IfSome, nat_lt}
use Rattle.std.proofs.lemmas.Bool.{cases_lt}
use Rattle.std.proofs.lemmas.List.{get_or-set_same, get_or-set_other}
use Rattle.std.proofs.lemmas.Bool.Decides.{nat_tests}
use Rattle.values.specs.declared.value.Value.{Value}
use Rattle.spelling.specs.declared.algorithm.Algorithm.{Algorithm}
use Rattle.policy.specs.declared.line.Line.{Line}
use Rattle.policy.specs.declared.line.Line.TheVariants as l
use Rattle.policy.specs.declared.line.Force.{Force}
use Rattle.policy.specs.declared.line.Effect.{Effect}
use Rattle.spelling.specs.declared.algorithm.Combining.{Combining}
use Rattle.policy.specs.declared.line.Family.{Family}
use Rattle.policy.specs.declared.line.Family.TheVariants.{Expression as expression, Duty as duty, Item as item, Policy as policy}
use Rattle.policy.specs.Lines.{family_of, same_family, line_at, may_name, references}
use Rattle.policy.specs.Tree.{Tree}
use Rattle.operators.specs.Operators.{not_of}
use Rattle.combining.specs.declared.decision.Decision.{Decision}
use Rattle.trees.specs.Expressions.{applied, value_of}
use Rattle.trees.specs.Duties.{all_fulfilled}
use Rattle.trees.specs.Policies.{respond}
use Rattle.trees.specs.Parts.{Part, items, items_with, part_at, part_for, as_expression, as_items, as_policy, duties_at}
use Rattle.trees.specs.Known.{known, known_parts, known_policy, nothing}
use Rattle.trees.proofs.Grown.{grown}
use Rattle.conditions.specs.declared.places.Places.{Places}
use Rattle.conditions.specs.Meaning.{value_by, value_at, names_above}
use Rattle.conditions.specs.declared.truth.Truth.{Truth}
use Rattle.conditions.specs.Places.{Grows, values_in, value_in, holds, Inside}
use Rattle.combining.specs.Table.{place}
use Rattle.conditions.specs.States.{AllInside, Only}
use Rattle.conditions.proofs.Growing.{inside_kept, holds_kept}
use Rattle.conditions.proofs.Spreading.{all_kept, only-kept}
use Rattle.compiling.specs.declared.written.Written.{Written}
use Rattle.compiling.specs.declared.written.Written.TheVariants as w
use Rattle.compiling.specs.Handed.{item_named, given_by, algorithm_at, Given}
use Rattle.compiling.specs.Written.{value_place, truth_in, states_in, decision_truths, written_at, chain_in, InState, Before, decisions_of, Says, AllSay}
use Rattle.compiling.specs.Copied.{copy_of}
use Rattle.compiling.proofs.Deciding.{one_decides, more_decide}
use Rattle.compiling.proofs.Sound.{Sound, sound_of, same_family_is}

-- what is said of a line of a known family
pub says_as : (f : Family) {g : Family} → g ≡ f → (p : Places) (rs : List Value) (a : Algorithm) (w : Written) (x : Part) → Says g p rs a w x → Says f p rs a w x
says_as f e p rs a w x h = subst (λ g. Says g p rs a w x) e h

module _ (ls : List Line) (tree : Tree ls) (n : ℕ) (lo : 0 < n) (hi : n ≤ length ls) {x : Line} (f : line_at ls n ≡ x) where
  pub part_is : (rs : List Value) → part_at (known_parts ls rs) n ≡ part_for (known rs) n (known_parts ls rs) x
  part_is rs = grown (known rs) ls tree.above n lo hi f

  pub names_sound : Sound ls n (references x)
  names_sound = let P : Line → Type 0 = λ y. Sound ls n (references y) in subst P f (sound_of ls n (references (line_at ls n)) (tree.above n lo hi))

  pub family_is : family_of (line_at ls n) ≡ family_of x
  family_is = ap family_of f

pub says_back : (f : Family) {g : Family} → g ≡ f → (p : Places) (rs : List Value) (a : Algorithm) (w : Written) (x : Part) → Says f p rs a w x → Says g p rs a w x
says_back f e p rs a w x h = subst (λ g. Says g p rs a w x) (sym e) h

-- further lines leave what was said
pub says_kept : {p q : Places} {n : ℕ} → Grows p q n → (f : Family) (rs : List Value) (a : Algorithm) (w : Written) (x : Part) → Says f p rs a w x → Says f q rs a w x
says_kept g expression rs a w x h = let u = g.up in let v = h.0 in (omega (arith, u, v), g.kept rs (value_place w) h.0 ∙ h.1)
says_kept g duty rs a w x h = (inside_kept g (truth_in w) h.0, holds_kept g rs (truth_in w) h.0 ∙ h.1)
says_kept g item rs a w x h = (all_kept g (states_in w) h.0, record { state = h.1.state; bound = h.1.bound; only = only-kept g rs (states_in w) h.1.state h.0 h.1.only; stands = h.1.stands })
says_kept g policy rs a w x h = (all_kept g (decision_truths w) h.0, only-kept g rs (decision_truths w) _ h.0 h.1)

-- one line more
pub all_more : {p q : Places} {m : ℕ} → Grows p q m → (ls : List Line) (rs : List Value) (hs : List Algorithm) (ws : List Written) (n : ℕ) (w : Written) → n < length ws → AllSay n ls p rs hs ws
    → Says (family_of (line_at ls n)) q rs (algorithm_at hs n) w (part_at (known_parts ls rs) n) → AllSay (n + 1) ls q rs hs (slice_set ws n w)
all_more {q = q} g ls rs hs ws n y l all h k lo hi = elim (cases_lt k n) [
  | inl u ↦
      subst (λ x. Says (family_of (line_at ls k)) q rs (algorithm_at hs k) x (part_at (known_parts ls rs) k)) (sym (get_or-set_other ws n k y (w.Expression 0) (λ e. omega (arith, e, u))))
      (says_kept g (family_of (line_at ls k)) rs _ _ _ (all k lo u))
  | inr u ↦
      let e : n ≡ k = omega (arith, u, hi) in
      subst (λ k. Says (family_of (line_at ls k)) q rs (algorithm_at hs k) (written_at (slice_set ws n y) k) (part_at (known_parts ls rs) k)) e
      (subst (λ x. Says (family_of (line_at ls n)) q rs (algorithm_at hs n) x (part_at (known_parts ls rs) n)) (sym (get_or-set_same ws n y (w.Expression 0) l)) h)
]

-- the first line names no other, so it is an expression
pub first_expression : (ls : List Line) → Tree ls → family_of (line_at ls 1) ≡ expression
first_expression ls tree = by (line_at ls 1) (sound_of ls 1 (references (line_at ls 1)) (tree.above 1 (omega arith) tree.some))
  where
    by : (x : Line) → Sound ls 1 (references x) → family_of x ≡ expression
    by (l.Truth b) s = refl
    by (l.Attribute y) s = refl
    by (l.Number z) s = refl
    by (l.Text y) s = refl
    by (l.Not j) s = refl
    by (l.Binary o j k) s = refl
    by (l.Duty f a e d) s = let lo = s.0.0 in let hi = s.0.1 in absurd (omega (arith, lo, hi))
    by (l.Item q i) s = let lo = s.0.0 in let hi = s.0.1 in absurd (omega (arith, lo, hi))
    by (l.Rule e t d) s = let lo = s.0.0 in let hi = s.0.1 in absurd (omega (arith, lo, hi))
    by (l.Set c t i q d) s = let lo = s.0.0 in let hi = s.0.1 in absurd (omega (arith, lo, hi))

-- a line that is of no other family is an expression
pub other_family : (x : Line) → ((f : Force) (a e : ℕ) (d : Option ℕ) → x ≡ l.Duty f a e d → ⊥) → ((q : ℕ) (i : Option ℕ) → x ≡ l.Item q i → ⊥) → ((e : Effect) (t : ℕ) (d : Option ℕ) → x ≡ l.Rule e t d → ⊥) → ((c : Combining) (t i : ℕ) (q d : Option ℕ) → x ≡ l.Set c t i q d → ⊥)
    → family_of x ≡ expression
other_family (l.Truth b) r s t u = refl
other_family (l.Attribute y) r s t u = refl
other_family (l.Number z) r s t u = refl
other_family (l.Text y) r s t u = refl
other_family (l.Not j) r s t u = refl
other_family (l.Binary o j k) r s t u = refl
other_family (l.Duty f a e d) r s t u = absurd (r f a e d refl)
other_family (l.Item q i) r s t u = absurd (s q i refl)
other_family (l.Rule e t' d) r s t u = absurd (t e t' d refl)
other_family (l.Set c t' i q d) r s t u = absurd (u c t' i q d refl)

module _ (ls : List Line) (p : Places) (rs : List Value) (hs : List Algorithm) (ws : List Written) (n : ℕ) (all : AllSay n ls p rs hs ws) where
  abbrev ps : List Part
  ps = known_parts ls rs

  -- a line above, of the family that a place asks for
  abbrev Named : Family → ℕ → Type 0
  Named f k = (0 < k) × (k < n) × (family_of (line_at ls k) ≡ f)

  pub named_says : (f : Family) (k : ℕ) → Named f k → Says f p rs (algorithm_at hs k) (written_at ws k) (part_at ps k)
  named_says f k h = says_as f h.2 p rs (algorithm_at hs k) (written_at ws k) (part_at ps k) (all k h.0 h.1)

  pub chain_says : (o : Option ℕ) → Sound ls n (may_name duty o) → Inside p (chain_in ws o) × (holds p rs (chain_in ws o) ≡ all_fulfilled nothing (duties_at ps o))
  chain_says None s = (tt, refl)
  chain_says (Some k) s = named_says duty k s.0

  -- the same of what the code finds

  pub place_found : (k : ℕ) → Named expression k → {w : Written} {v : ℕ} → w ≡ written_at ws k → v ≡ value_place w → (v < p.used) × (value_in p rs v ≡ value_of nothing (as_expression (part_at ps k)))
  place_found k h e f =
      let P : ℕ → Type 0 = λ v. (v < p.used) × (value_in p rs v ≡ value_of nothing (as_expression (part_at ps k))) in
      subst P (sym (f ∙ ap value_place e)) (named_says expression k h)

  pub chain_found : (o : Option ℕ) → Sound ls n (may_name duty o) → {t : Truth} → t ≡ chain_in ws o → Inside p t × (holds p rs t ≡ all_fulfilled nothing (duties_at ps o))
  chain_found o s e =
      let P : Truth → Type 0 = λ t. Inside p t × (holds p rs t ≡ all_fulfilled nothing (duties_at ps o)) in
      subst P (sym e) (chain_says o s)

  pub states_found : (k : ℕ) → Named item k → {w : Written} {ts : List Truth} → w ≡ written_at ws k → ts ≡ states_in w → AllInside p ts × InState p rs (algorithm_at hs k) ts (decisions_of (part_at ps k))
  states_found k h e f =
      let P : List Truth → Type 0 = λ ts. AllInside p ts × InState p rs (algorithm_at hs k) ts (decisions_of (part_at ps k)) in
      subst P (sym (f ∙ ap states_in e)) (named_says item k h)

  pub earlier_inside : (o : Option ℕ) → Sound ls n (may_name item o) → IfSome o (λ k. AllInside p (states_in (written_at ws k)))
  earlier_inside None s = tt
  earlier_inside (Some k) s = (named_says item k s.0).0

  -- what the items before one decide
  abbrev pub earlier_decisions : Option ℕ → List Decision
  earlier_decisions None = []
  earlier_decisions (Some k) = decisions_of (part_at ps k)

  -- a line gives its algorithm to the item that it names
  pub given_to : {x : Line} → line_at ls n ≡ x → Given hs ls n → algorithm_at hs (item_named n x) ≡ given_by (algorithm_at hs n) x
  given_to f g = subst (λ y. algorithm_at hs (item_named n y) ≡ given_by (algorithm_at hs n) y) f g

  pub before_says : (q : ℕ) (o : Option ℕ) → line_at ls n ≡ l.Item q o → Given hs ls n → Sound ls n (may_name item o) → Before p rs (algorithm_at hs n) ws o (earlier_decisions o)
  before_says q None f g s = refl
  before_says q (Some k) f g s = subst (λ a. InState p rs a (states_in (written_at ws k)) (decisions_of (part_at ps k))) (given_to f g) (named_says item k s.0).1

  pub items_decide : (q : ℕ) (o : Option ℕ) → decisions_of (items (items_with ps o (as_policy (part_at ps q)))) ≡ earlier_decisions o ++ (respond nothing (as_policy (part_at ps q))).decision ∷ []
  items_decide q None = one_decides nothing (as_policy (part_at ps q))
  items_decide q (Some k) = more_decide nothing (as_items (part_at ps k)) (as_policy (part_at ps q))

  above_is : (k : ℕ) → Named expression k → nat_lt (value_place (written_at ws k)) p.used ≡ true
  above_is k h = let s = (named_says expression k h).0 in grind (arith, nat_tests)

  value_is : (k : ℕ) → Named expression k → value_at (values_in p rs) (value_place (written_at ws k)) ≡ value_of nothing (as_expression (part_at ps k))
  value_is k h = (named_says expression k h).1

  -- the copy of an expression line
  pub copy_above : (x : Line) → Sound ls n (references x) → names_above p.used (copy_of n ws x) ≡ true
  copy_above (l.Truth b) s = refl
  copy_above (l.Attribute y) s = refl
  copy_above (l.Number z) s = refl
  copy_above (l.Text y) s = refl
  copy_above (l.Not j) s = above_is j s.0
  copy_above (l.Binary o j k) s = ap (λ b. b && nat_lt (value_place (written_at ws k)) p.used) (above_is j s.0) ∙ above_is k s.1.0
  copy_above (l.Duty g a e d) s = refl
  copy_above (l.Item q i) s = refl
  copy_above (l.Rule e t d) s = refl
  copy_above (l.Set c t i q d) s = refl

  pub copy_says : (x : Line) → Sound ls n (references x) → family_of x ≡ expression → value_by rs (values_in p rs) (copy_of n ws x) ≡ value_of nothing (as_expression (part_for (known rs) n ps x))
  copy_says (l.Truth b) s e = refl
  copy_says (l.Attribute y) s e = refl
  copy_says (l.Number z) s e = refl
  copy_says (l.Text y) s e = refl
  copy_says (l.Not j) s e = ap not_of (value_is j s.0)
  copy_says (l.Binary o j k) s e = ap (λ v. applied o v (value_at (values_in p rs) (value_place (written_at ws k)))) (value_is j s.0) ∙ ap (applied o _) (value_is k s.1.0)
  copy_says (l.Duty g a y d) s e = absurd (true≢false (sym (ap (λ g. same_family g expression) e)))
  copy_says (l.Item q i) s e = absurd (true≢false (sym (ap (λ g. same_family g expression) e)))
  copy_says (l.Rule y t d) s e = absurd (true≢false (sym (ap (λ g. same_family g expression) e)))
  copy_says (l.Set c t i q d) s e = absurd (true≢false (sym (ap (λ g. same_family g expression) e)))

-- what is said of the last line, a policy
pub last_says : (ls : List Line) → Tree ls → (p : Places) (rs : List Value) (hs : List Algorithm) (ws : List Written) (n : ℕ) → n ≡ length ls → AllSay (n + 1) ls p rs hs ws → (w : Written) → w ≡ written_at ws (length ls) → (ts : List Truth) → ts ≡ decision_truths w
    → AllInside p ts × Only p rs ts (place (respond nothing (known_policy ls rs)).decision)
last_says ls tree p rs hs ws n q all w e ts f =
    let lo = tree.some in
    let k : ℕ = length ls in
    let P : List Truth → Type 0 = λ ts. AllInside p ts × Only p rs ts (place (respond nothing (known_policy ls rs)).decision) in
    subst P (sym (f ∙ ap decision_truths e)) (says_as policy (same_family_is (family_of (line_at ls k)) policy tree.last) p rs (algorithm_at hs k) (written_at ws k) (part_at (known_parts ls rs) k) (all k lo (omega (arith, q))))
