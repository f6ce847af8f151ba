-- That the policy with its readings in the place of the attributes answers as the policy does over any map that they agree with.
use Rattle.std.proofs.Common.{◌≡◌, ℕ, zero, suc, ◌+◌, ◌-◌, ◌<◌, false, List, [], ◌∷◌, ◌++◌, length, get_or, Some, None, Option, refl, ap, ◌∙◌, subst, add-zero, arith}
use Rattle.std.proofs.lemmas.List.{length_push}
use Rattle.std.specs.List.{AllZip}
use Rattle.std.proofs.lemmas.List.Elements.{AllZip-push, length_all_zip}
use Rattle.values.specs.declared.value.Value.{Value}
use Rattle.policy.specs.declared.line.Force.{Force}
use Rattle.policy.specs.declared.line.Effect.{Effect}
use Rattle.policy.specs.declared.line.Line.{Line}
use Rattle.policy.specs.declared.line.Line.TheVariants as l
use Rattle.spelling.specs.declared.algorithm.Combining.{Combining}
use Rattle.operators.specs.Operators.{not_of}
use Rattle.combining.specs.declared.decision.Decision.{Decision}
use Rattle.combining.specs.declared.decision.Decision.TheVariants.{Permit, Deny, NotApplicable, Indeterminate}
use Rattle.combining.specs.Combined.{Response}
use Rattle.trees.specs.Expressions.{Expression, Map, value_of}
use Rattle.trees.specs.declared.duty.Duty.{Duty}
use Rattle.trees.specs.Duties.{Duties, none, then, all_fulfilled, dues_of}
use Rattle.trees.specs.Policies.{Policy, rule, set, Items, one, more, respond, first, rest, on_target, appended, closed, closed_by, combined_by}
use Rattle.trees.specs.Parts.{Part, expression, duties, items, policy, no_policy, no_part, as_expression, as_duties, as_items, as_policy, part_at, duties_at, items_with, part_for, parts_after, parts_of, named, policy_of}
use Rattle.trees.specs.Known.{read_at, known, known_policy, nothing, wanted, Reads}

-- duties with the same outcome over nothing as others over the map
record SameDuties (m : Map) (ds es : Duties) : Type 0 where
  fulfilled : all_fulfilled nothing ds ≡ all_fulfilled m es
  dues : dues_of nothing ds ≡ dues_of m es

-- items with the same responses
record SameItems (m : Map) (is js : Items) : Type 0 where
  head : first nothing is ≡ first m js
  tail : rest nothing is ≡ rest m js

-- a part that is over nothing what another is over the map, whichever sort of part is asked for
record Alike (m : Map) (p q : Part) : Type 0 where
  value : value_of nothing (as_expression p) ≡ value_of m (as_expression q)
  owed : SameDuties m (as_duties p) (as_duties q)
  held : SameItems m (as_items p) (as_items q)
  response : respond nothing (as_policy p) ≡ respond m (as_policy q)

-- so place by place
abbrev EachAlike : Map → List Part → List Part → Type 0
EachAlike m ps qs = AllZip (Alike m) ps qs

module _ (m : Map) where
  no_duties : SameDuties m none none
  no_duties = record { fulfilled = refl; dues = refl }

  no_items : SameItems m (one no_policy) (one no_policy)
  unfolding respond
  no_items = record { head = refl; tail = refl }

  no_response_lem : respond nothing no_policy ≡ respond m no_policy
  unfolding respond
  no_response_lem = refl

  -- parts of one sort are alike where that sort is: in the place of another sort both have the same

  expressions : (e f : Expression) → value_of nothing e ≡ value_of m f → Alike m (expression e) (expression f)
  expressions e f h = record { value = h; owed = no_duties; held = no_items; response = no_response_lem }

  all-duties : (ds es : Duties) → SameDuties m ds es → Alike m (duties ds) (duties es)
  all-duties ds es h = record { value = refl; owed = h; held = no_items; response = no_response_lem }

  all-items : (is js : Items) → SameItems m is js → Alike m (items is) (items js)
  all-items is js h = record { value = refl; owed = no_duties; held = h; response = no_response_lem }

  policies : (p q : Policy) → respond nothing p ≡ respond m q → Alike m (policy p) (policy q)
  policies p q h = record { value = refl; owed = no_duties; held = no_items; response = h }

  -- each way to build a part keeps this

  same_then : (ds es : Duties) (f : Force) (a : ℕ) (x y : Expression) → SameDuties m ds es → value_of nothing x ≡ value_of m y → SameDuties m (then ds f a x) (then es f a y)
  same_then ds es f a x y h e = record { fulfilled = cc; dues = cc }

  same_more : (is js : Items) (p q : Policy) → SameItems m is js → respond nothing p ≡ respond m q → SameItems m (more is p) (more js q)
  unfolding respond
  same_more is js p q h e = record { head = h.head; tail = cc }

  same_appended : (ds es : Duties) (r : Response Duty) → SameDuties m ds es → appended nothing ds r ≡ appended m es r
  same_appended ds es r h = cc

  same_closed : (ds es fs gs : Duties) → SameDuties m ds es → SameDuties m fs gs → (d : Decision) (r : Response Duty) → closed nothing ds fs d r ≡ closed m es gs d r
  same_closed ds es fs gs h k Permit r = same_appended ds es r h
  same_closed ds es fs gs h k Deny r = same_appended fs gs r k
  same_closed ds es fs gs h k NotApplicable r = refl
  same_closed ds es fs gs h k Indeterminate r = refl

  same_rule : (e : Effect) (t u : Expression) (ds es : Duties) → value_of nothing t ≡ value_of m u → SameDuties m ds es → respond nothing (rule e t ds) ≡ respond m (rule e u es)
  unfolding respond
  same_rule e t u ds es v h = cc

  same_set : (c : Combining) (t u : Expression) (is js : Items) (ds es fs gs : Duties) → value_of nothing t ≡ value_of m u → SameItems m is js → SameDuties m ds es → SameDuties m fs gs
      → respond nothing (set c t is ds fs) ≡ respond m (set c u js es gs)
  unfolding respond
  same_set c t u is js ds es fs gs v i h k =
      let e : closed_by nothing ds fs (combined_by c (first nothing is) (rest nothing is)) ≡ closed_by m es gs (combined_by c (first m js) (rest m js)) =
      same_closed ds es fs gs h k _ _
      ∙ ap (λ r. closed_by m es gs (combined_by c r (rest nothing is))) i.head
      ∙ ap (λ rs. closed_by m es gs (combined_by c (first m js) rs)) i.tail in
      ap (λ x. on_target x (closed_by nothing ds fs (combined_by c (first nothing is) (rest nothing is)))) v ∙ ap (on_target (value_of m u)) e

  alike_at : (ps qs : List Part) → EachAlike m ps qs → (n : ℕ) → Alike m (part_at ps n) (part_at qs n)
  alike_at [] [] h n = expressions _ _ refl
  alike_at [] (q ∷ qs) h n = absurd h
  alike_at (p ∷ ps) [] h n = absurd h
  alike_at (p ∷ ps) (q ∷ qs) h zero = h.0
  alike_at (p ∷ ps) (q ∷ qs) h (suc n) = alike_at ps qs h.1 n

  duties_at_lem : (ps qs : List Part) → EachAlike m ps qs → (d : Option ℕ) → SameDuties m (duties_at ps d) (duties_at qs d)
  duties_at_lem ps qs h None = no_duties
  duties_at_lem ps qs h (Some n) = (alike_at ps qs h n).owed

  items_with_lem : (ps qs : List Part) → EachAlike m ps qs → (i : Option ℕ) (p q : Policy) → respond nothing p ≡ respond m q → SameItems m (items_with ps i p) (items_with qs i q)
  unfolding respond
  items_with_lem ps qs h None p q e = record { head = e; tail = refl }
  items_with_lem ps qs h (Some n) p q e = same_more _ _ p q (alike_at ps qs h n).held e

  -- the part of a line that has read the map's value, if it is an attr line
  part_alike : (vs : List Value) (n : ℕ) (ps qs : List Part) → EachAlike m ps qs → (x : Line) → read_at vs n ≡ wanted m x (read_at vs n) → Alike m (part_for (known vs) n ps x) (part_for named n qs x)
  part_alike vs n ps qs h (l.Truth b) r = expressions _ _ refl
  part_alike vs n ps qs h (l.Attribute x) r = expressions _ _ r
  part_alike vs n ps qs h (l.Number z) r = expressions _ _ refl
  part_alike vs n ps qs h (l.Text x) r = expressions _ _ refl
  part_alike vs n ps qs h (l.Not j) r = expressions _ _ (ap not_of (alike_at ps qs h j).value)
  part_alike vs n ps qs h (l.Binary o j k) r = let a = (alike_at ps qs h j).value in let b = (alike_at ps qs h k).value in expressions _ _ cc
  part_alike vs n ps qs h (l.Duty f a e d) r = all-duties _ _ (same_then _ _ f a _ _ (duties_at_lem ps qs h d) (alike_at ps qs h e).value)
  part_alike vs n ps qs h (l.Item p i) r = all-items _ _ (items_with_lem ps qs h i _ _ (alike_at ps qs h p).response)
  part_alike vs n ps qs h (l.Rule e t d) r = policies _ _ (same_rule e _ _ _ _ (alike_at ps qs h t).value (duties_at_lem ps qs h d))
  part_alike vs n ps qs h (l.Set c t i p d) r =
      policies _ _ (same_set c _ _ _ _ _ _ _ _ (alike_at ps qs h t).value (alike_at ps qs h i).held (duties_at_lem ps qs h p) (duties_at_lem ps qs h d))

  -- the lines that come after the parts ps have read the map's values
  abbrev ReadsAfter : List Value → List Part → List Line → Type 0
  ReadsAfter vs ps ls = (i : ℕ) → i < length ls → read_at vs (length ps + i) ≡ wanted m (get_or ls i (l.Truth false)) (read_at vs (length ps + i))

  parts-alike : (vs : List Value) (ps qs : List Part) (ls : List Line) → EachAlike m ps qs → ReadsAfter vs ps ls → EachAlike m (parts_after (known vs) ps ls) (parts_after named qs ls)
  parts-alike vs ps qs [] h r = h
  parts-alike vs ps qs (x ∷ ls) h r = parts-alike vs (ps ++ p ∷ []) (qs ++ q ∷ []) ls (AllZip-push (Alike m) ps qs p q h alike) later
    where
      p : Part
      p = part_for (known vs) (length ps) ps x

      q : Part
      q = part_for named (length qs) qs x

      alike : Alike m p q
      alike =
          let P : ℕ → Type 0 = λ n. read_at vs n ≡ wanted m x (read_at vs n) in
          let Q : ℕ → Type 0 = λ n. Alike m p (part_for named n qs x) in
          subst Q (length_all_zip (Alike m) ps qs h) (part_alike vs (length ps) ps qs h x (subst P (add-zero (length ps)) (r 0 (omega arith))))

      later : ReadsAfter vs (ps ++ p ∷ []) ls
      later i b =
          let P : ℕ → Type 0 = λ n. read_at vs n ≡ wanted m (get_or ls i (l.Truth false)) (read_at vs n) in
          let e : length ps + suc i ≡ length (ps ++ p ∷ []) + i = simp length_push (omega arith) in
          subst P e (r (suc i) (omega arith))

-- the policy with its readings in the place of the attributes answers as the policy does over any map that they agree with
pub known-respond : (ls : List Line) (vs : List Value) (m : Map) → Reads ls vs m → respond nothing (known_policy ls vs) ≡ respond m (policy_of ls)
unfolding parts_of
known-respond ls vs m h = (alike_at m _ _ (parts-alike m vs (no_part ∷ []) (no_part ∷ []) ls (expressions m _ _ refl, tt) read) (length ls)).response
  where
    read : ReadsAfter m vs (no_part ∷ []) ls
    read i b =
        let P : ℕ → Type 0 = λ k. read_at vs (1 + i) ≡ wanted m (get_or ls k (l.Truth false)) (read_at vs (1 + i)) in
        let e : (1 + i) - 1 ≡ i = omega arith in
        subst P e (h (1 + i) (omega arith) (omega arith))
