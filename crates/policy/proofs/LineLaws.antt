-- A line that was read: what it names is marked, and it is spelled in one way.
use Rattle.std.proofs.Common.{◌≡◌, ℕ, ◌<◌, Bool, true, false, cond, ◌⊎◌, List, [], length, Some, None, Ok, Err, codes, Option, Result, sym, refl, ap, ◌∙◌, subst, inl, inr, ⊎_elim, arith}
use Rattle.std.specs.Str.{bytes_eq}
use Rattle.values.specs.Options.{or_else}
use Rattle.refusals.specs.Results.{or_refuse}
use Rattle.refusals.specs.declared.cause.Cause.TheVariants as why
use Rattle.refusals.specs.declared.place.LineFault.{LineFault}
use Rattle.spelling.specs.Algorithms.{combining_of}
use Rattle.spelling.specs.Cuts.{Six}
use Rattle.spelling.specs.Numbers.{number_of, action_of}
use Rattle.spelling.specs.Words.{name_of, text_of}
use Rattle.spelling.proofs.Back.{number_back, action_back, name_back, text_back, combining_back, choice, no_choice}
use Rattle.spelling.proofs.Inversions.{same}
use Rattle.policy.specs.declared.kind.Kind.{Kind}
use Rattle.policy.specs.declared.kind.Kind.TheVariants as k
use Rattle.policy.specs.declared.line.Operator.{Operator}
use Rattle.policy.specs.declared.line.Operator.TheVariants as o
use Rattle.policy.specs.declared.line.Force.{Force}
use Rattle.policy.specs.declared.line.Force.TheVariants.{Must, May}
use Rattle.policy.specs.declared.line.Effect.{Effect}
use Rattle.policy.specs.declared.line.Effect.TheVariants.{Permit, Deny}
use Rattle.policy.specs.declared.line.Family.TheVariants as family
use Rattle.policy.specs.declared.line.Line.{Line}
use Rattle.policy.specs.declared.line.Line.TheVariants as l
use Rattle.policy.specs.Kinds.{operator_named, leaf_named, branch_named, kind_of}
use Rattle.policy.specs.Lines.{references}
use Rattle.policy.specs.Check.{Marks, marking, refer_of, may_refer_of, unused_of, last_two, last_three, last_four, leaf_of, truth_of, attribute_of, number_line_of, text_line_of, not_of, binary_of, duty_of, item_of, rule_of, set_of, line_for, line_of}
use Rattle.policy.specs.Spelt.{truth_word, operator_word, force_word, effect_word, fields_for}
use Rattle.refusals.proofs.Inversions.{bind_ok, field_bind, ok_same, or_ok, passed, field_ok}
use Rattle.policy.specs.WellSpelt.{WellSpelt}
use Rattle.policy.proofs.Named.{Named, none, both, refers, may_refer}

-- the words of the kinds

abbrev kind_word : Kind → List ℕ
kind_word (k.Truth b) = truth_word b
kind_word k.Attribute = codes "attr"
kind_word k.Number = codes "num"
kind_word k.Text = codes "text"
kind_word k.Not = codes "not"
kind_word (k.Binary op) = operator_word op
kind_word (k.Duty f) = force_word f
kind_word k.Item = codes "item"
kind_word (k.Rule e) = effect_word e
kind_word k.Set = codes "set"

or_some : {A : Type 0} (p q : Option A) (x : A) → or_else p q ≡ Some x → (p ≡ Some x) ⊎ (q ≡ Some x)
or_some None q x h = inr h
or_some (Some y) q x h = inl h

module _ (xs : List ℕ) (kind : Kind) where
  one : (i : Kind) (r : Option Kind) → (r ≡ Some kind → xs ≡ kind_word kind) → cond (bytes_eq xs (kind_word i)) (Some i) r ≡ Some kind → xs ≡ kind_word kind
  one i r g = choice kind_word (bytes_eq xs (kind_word i)) i r kind xs (same xs (kind_word i)) g

  no_kind : ◌≡◌ {A = Option Kind} None (Some kind) → xs ≡ kind_word kind
  no_kind = no_choice kind_word kind xs

  operator_back : operator_named xs ≡ Some kind → xs ≡ kind_word kind
  operator_back =
      one (k.Binary o.And) _ (one (k.Binary o.Or) _ (one (k.Binary o.Equal) _ (one (k.Binary o.In) _ (one (k.Binary o.Greater) _
      (one (k.Binary o.Add) _ (one (k.Binary o.Sub) _ (one (k.Binary o.Mul) _ (one (k.Binary o.Div) _ no_kind))))))))

  leaf_back : leaf_named xs ≡ Some kind → xs ≡ kind_word kind
  leaf_back = one k.Attribute _ (one k.Number _ (one k.Text _ (one k.Not _ (one (k.Truth true) _ (one (k.Truth false) _ no_kind)))))

  branch_back : branch_named xs ≡ Some kind → xs ≡ kind_word kind
  branch_back = one (k.Duty Must) _ (one (k.Duty May) _ (one k.Item _ (one (k.Rule Permit) _ (one (k.Rule Deny) _ (one k.Set _ no_kind)))))

  pub kind_back : kind_of xs ≡ Some kind → xs ≡ kind_word kind
  kind_back h = ⊎_elim leaf_back (λ g. ⊎_elim operator_back branch_back (or_some (operator_named xs) (branch_named xs) kind g)) (or_some (leaf_named xs) _ kind h)

-- unused fields

unused_back : (xs : List ℕ) (u : Unit {0}) → unused_of xs ≡ Ok u → codes "-" ≡ xs
unused_back xs u h = sym (same xs (codes "-") (passed (bytes_eq xs (codes "-")) (Ok tt) _ u h).0)

two_back : (f : Six) (u : Unit {0}) → last_two f ≡ Ok u → (codes "-" ≡ f.d) × (codes "-" ≡ f.e)
two_back f u h =
    let d = field_bind 5 (unused_of f.d) _ u h in
    (unused_back f.d _ d.1.0, unused_back f.e u (field_ok 6 (unused_of f.e) u d.1.1))

three_back : (f : Six) (u : Unit {0}) → last_three f ≡ Ok u → (codes "-" ≡ f.c) × ((codes "-" ≡ f.d) × (codes "-" ≡ f.e))
three_back f u h = let c = field_bind 4 (unused_of f.c) _ u h in (unused_back f.c _ c.1.0, two_back f u c.1.1)

four_back : (f : Six) (u : Unit {0}) → last_four f ≡ Ok u → (codes "-" ≡ f.b) × ((codes "-" ≡ f.c) × ((codes "-" ≡ f.d) × (codes "-" ≡ f.e)))
four_back f u h = let b = field_bind 3 (unused_of f.b) _ u h in (unused_back f.b _ b.1.0, three_back f u b.1.1)

same_six : (f g : Six) → f.kind ≡ g.kind → f.a ≡ g.a → (f.b ≡ g.b) × ((f.c ≡ g.c) × ((f.d ≡ g.d) × (f.e ≡ g.e))) → f ≡ g
same_six f g p q r = λ i. record { kind = p i; a = q i; b = r.0 i; c = r.1.0 i; d = r.1.1.0 i; e = r.1.1.1 i }

-- a line and the marks that it left, from the six fields f
pub record ReadAs (ls : List Line) (ms : Marks) (f : Six) (p : Line × Marks) : Type 0 where
  pub named : Named ls ms (references p.0) p.1
  pub spells : fields_for p.0 ≡ f
  pub spelled : WellSpelt p.0

module _ (ls : List Line) (ms : Marks) (f : Six) (lt : length ls < length ms) where
  abbrev Reads : Line × Marks → Type 0
  Reads p = ReadAs ls ms f p

  -- a line that names none
  plain : (r : Result Line LineFault) (p : Line × Marks) → marking r ms ≡ Ok p → ((x : Line) → r ≡ Ok x → (references x ≡ []) × (fields_for x ≡ f) × WellSpelt x) → Reads p
  plain (Ok x) p h g =
      let e : (x, ms) ≡ p = ok_same h in
      let w = g x refl in
      subst Reads e (record { named = subst (λ rs. Named ls ms rs ms) (sym w.0) (none ls ms); spells = w.1; spelled = w.2 })
  plain (Err e) p h g = cc

  truth_reads : (b : Bool) (p : Line × Marks) → f.kind ≡ truth_word b → marking (truth_of b f) ms ≡ Ok p → Reads p
  truth_reads b p w h = plain (truth_of b f) p h (λ x g.
      let a = field_bind 2 (unused_of f.a) _ x g in
      let u = bind_ok (last_four f) _ x a.1.1 in
      let e : l.Truth b ≡ x = ok_same u.1.1 in
      (ap references (sym e), ap fields_for (sym e) ∙ same_six (fields_for (l.Truth b)) f (sym w) (unused_back f.a _ a.1.0) (four_back f _ u.1.0), subst WellSpelt e tt))

  -- a line of one field that is spelled in one way
  leaf_reads : {A : Type 0} (spelled : Option A) (line : A → Line) (p : Line × Marks) → ((x : A) → references (line x) ≡ [])
      → ((x : A) → spelled ≡ Some x → (codes "-" ≡ f.b) × ((codes "-" ≡ f.c) × ((codes "-" ≡ f.d) × (codes "-" ≡ f.e))) → (fields_for (line x) ≡ f) × WellSpelt (line x))
      → marking (leaf_of spelled line f) ms ≡ Ok p → Reads p
  leaf_reads spelled line p leaf back h = plain (leaf_of spelled line f) p h (λ y g.
      let a = field_bind 2 (or_refuse spelled why.Misspelt) _ y g in
      let u = bind_ok (last_four f) _ y a.1.1 in
      let b = back a.0 (or_ok spelled _ a.0 a.1.0) (four_back f _ u.1.0) in
      let e : line a.0 ≡ y = ok_same u.1.1 in
      (ap references (sym e) ∙ leaf a.0, ap fields_for (sym e) ∙ b.0, subst WellSpelt e b.1))

  attribute_reads : (p : Line × Marks) → f.kind ≡ codes "attr" → marking (attribute_of f) ms ≡ Ok p → Reads p
  attribute_reads p w = leaf_reads (name_of f.a) l.Attribute p (λ x. refl)
      (λ x read unused. let back = name_back f.a x read in (same_six (fields_for (l.Attribute x)) f (sym w) back unused, ap name_of back ∙ read))

  number_reads : (p : Line × Marks) → f.kind ≡ codes "num" → marking (number_line_of f) ms ≡ Ok p → Reads p
  number_reads p w = leaf_reads (number_of f.a) l.Number p (λ x. refl)
      (λ x read unused. let back = number_back f.a x read in (same_six (fields_for (l.Number x)) f (sym w) back unused, ap number_of back ∙ read))

  text_reads : (p : Line × Marks) → f.kind ≡ codes "text" → marking (text_line_of f) ms ≡ Ok p → Reads p
  text_reads p w = leaf_reads (text_of f.a) l.Text p (λ x. refl)
      (λ x read unused. let back = text_back f.a x read in (same_six (fields_for (l.Text x)) f (sym w) back unused, ap text_of back ∙ read))

  -- lines that name others

  longer : {rs : _} {ns : Marks} → Named ls ms rs ns → length ls < length ns
  longer n = omega (arith, n.long)

  not_reads : (p : Line × Marks) → f.kind ≡ codes "not" → not_of ls ms f ≡ Ok p → Reads p
  not_reads p w h =
      let a = field_bind 2 (refer_of family.Expression ls ms f.a) _ p h in
      let u = bind_ok (last_four f) _ p a.1.1 in
      let r = refers family.Expression ls ms f.a a.0 lt a.1.0 in
      subst Reads (ok_same u.1.1) (record { named = r.named; spells = same_six (fields_for (l.Not a.0.0)) f (sym w) r.spells (four_back f _ u.1.0); spelled = tt })

  binary_reads : (op : Operator) (p : Line × Marks) → f.kind ≡ operator_word op → binary_of op ls ms f ≡ Ok p → Reads p
  binary_reads op p w h =
      let a = field_bind 2 (refer_of family.Expression ls ms f.a) _ p h in
      let r = refers family.Expression ls ms f.a a.0 lt a.1.0 in
      let b = field_bind 3 (refer_of family.Expression ls a.0.1 f.b) _ p a.1.1 in
      let s = refers family.Expression ls a.0.1 f.b b.0 (longer r.named) b.1.0 in
      let u = bind_ok (last_three f) _ p b.1.1 in
      subst Reads (ok_same u.1.1) (record { named = both r.named s.named; spells = same_six (fields_for (l.Binary op a.0.0 b.0.0)) f (sym w) r.spells (s.spells, three_back f _ u.1.0); spelled = tt })

  duty_reads : (force : Force) (p : Line × Marks) → f.kind ≡ force_word force → duty_of force ls ms f ≡ Ok p → Reads p
  duty_reads force p w h =
      let a = field_bind 2 (or_refuse (action_of f.a) why.Misspelt) _ p h in
      let b = field_bind 3 (refer_of family.Expression ls ms f.b) _ p a.1.1 in
      let s = refers family.Expression ls ms f.b b.0 lt b.1.0 in
      let c = field_bind 4 (may_refer_of family.Duty ls b.0.1 f.c) _ p b.1.1 in
      let t = may_refer family.Duty ls b.0.1 f.c c.0 (longer s.named) c.1.0 in
      let u = bind_ok (last_two f) _ p c.1.1 in
      let read = or_ok (action_of f.a) _ a.0 a.1.0 in
      let back = action_back f.a a.0 read in
      subst Reads (ok_same u.1.1) (record {
        named = both s.named t.named;
        spells = same_six (fields_for (l.Duty force a.0 b.0.0 c.0.0)) f (sym w) back (s.spells, (t.spells, two_back f _ u.1.0));
        spelled = ap action_of back ∙ read;
      })

  item_reads : (p : Line × Marks) → f.kind ≡ codes "item" → item_of ls ms f ≡ Ok p → Reads p
  item_reads p w h =
      let a = field_bind 2 (refer_of family.Policy ls ms f.a) _ p h in
      let r = refers family.Policy ls ms f.a a.0 lt a.1.0 in
      let b = field_bind 3 (may_refer_of family.Item ls a.0.1 f.b) _ p a.1.1 in
      let s = may_refer family.Item ls a.0.1 f.b b.0 (longer r.named) b.1.0 in
      let u = bind_ok (last_three f) _ p b.1.1 in
      subst Reads (ok_same u.1.1) (record { named = both r.named s.named; spells = same_six (fields_for (l.Item a.0.0 b.0.0)) f (sym w) r.spells (s.spells, three_back f _ u.1.0); spelled = tt })

  rule_reads : (effect : Effect) (p : Line × Marks) → f.kind ≡ effect_word effect → rule_of effect ls ms f ≡ Ok p → Reads p
  rule_reads effect p w h =
      let a = field_bind 2 (refer_of family.Expression ls ms f.a) _ p h in
      let r = refers family.Expression ls ms f.a a.0 lt a.1.0 in
      let b = field_bind 3 (may_refer_of family.Duty ls a.0.1 f.b) _ p a.1.1 in
      let s = may_refer family.Duty ls a.0.1 f.b b.0 (longer r.named) b.1.0 in
      let u = bind_ok (last_three f) _ p b.1.1 in
      subst Reads (ok_same u.1.1) (record { named = both r.named s.named; spells = same_six (fields_for (l.Rule effect a.0.0 b.0.0)) f (sym w) r.spells (s.spells, three_back f _ u.1.0); spelled = tt })

  set_reads : (p : Line × Marks) → f.kind ≡ codes "set" → set_of ls ms f ≡ Ok p → Reads p
  set_reads p w h =
      let a = field_bind 2 (or_refuse (combining_of f.a) why.UnknownAlgorithm) _ p h in
      let b = field_bind 3 (refer_of family.Expression ls ms f.b) _ p a.1.1 in
      let q = refers family.Expression ls ms f.b b.0 lt b.1.0 in
      let c = field_bind 4 (refer_of family.Item ls b.0.1 f.c) _ p b.1.1 in
      let r = refers family.Item ls b.0.1 f.c c.0 (longer q.named) c.1.0 in
      let d = field_bind 5 (may_refer_of family.Duty ls c.0.1 f.d) _ p c.1.1 in
      let s = may_refer family.Duty ls c.0.1 f.d d.0 (longer (both q.named r.named)) d.1.0 in
      let e = field_bind 6 (may_refer_of family.Duty ls d.0.1 f.e) _ p d.1.1 in
      let t = may_refer family.Duty ls d.0.1 f.e e.0 (longer (both (both q.named r.named) s.named)) e.1.0 in
      subst Reads (ok_same e.1.1) (record {
        named = both q.named (both r.named (both s.named t.named));
        spells = same_six (fields_for (l.Set a.0 b.0.0 c.0.0 d.0.0 e.0.0)) f (sym w) (combining_back f.a a.0 (or_ok (combining_of f.a) _ a.0 a.1.0)) (q.spells, (r.spells, (s.spells, t.spells)));
        spelled = tt;
      })

  kind_reads : (kind : Kind) (p : Line × Marks) → f.kind ≡ kind_word kind → line_for kind ls ms f ≡ Ok p → Reads p
  kind_reads (k.Truth b) = truth_reads b
  kind_reads k.Attribute = attribute_reads
  kind_reads k.Number = number_reads
  kind_reads k.Text = text_reads
  kind_reads k.Not = not_reads
  kind_reads (k.Binary op) = binary_reads op
  kind_reads (k.Duty force) = duty_reads force
  kind_reads k.Item = item_reads
  kind_reads (k.Rule effect) = rule_reads effect
  kind_reads k.Set = set_reads

  pub line_reads : (p : Line × Marks) → line_of ls ms f ≡ Ok p → Reads p
  line_reads p h =
      let a = field_bind 1 (or_refuse (kind_of f.kind) why.UnknownKind) _ p h in
      kind_reads a.0 p (kind_back f.kind a.0 (or_ok (kind_of f.kind) _ a.0 a.1.0)) a.1.1
