-- Every tree of lines that can be spelled has an accepted file.
use Rattle.std.proofs.Common.{◌≡◌, ℕ, zero, suc, ◌+◌, ◌-◌, ◌<◌, ◌≤◌, Bool, true, false, cond, ◌&&◌, eqb, ltb, leb, List, [], ◌∷◌, ◌++◌, length, get_or, take, drop, set, ℤ, pos, Some, None, Ok, Err, codes, decimal, Option, sym, refl, ap, ◌∙◌, subst, append_assoc, arith, length-append, length-drop, length-set}
use Rattle.std.proofs.lemmas.List.{append-nil, get_or_append_left, get_or_at, get_or-take, get_or-drop, length-take-le, length_push}
use Rattle.std.proofs.lemmas.Bool.{and_parts}
use Rattle.std.proofs.lemmas.Bool.Decides.{nat_tests}
use Rattle.std.specs.Fmt.{signed_decimal}
use Rattle.std.specs.Str.{bytes_eq}
use Rattle.values.specs.Options.{bind}
use Rattle.values.specs.Short.{name_for, text_for}
use Rattle.refusals.specs.Results.{bind_r, or_refuse}
use Rattle.refusals.specs.Places.{at_field, at_line}
use Rattle.refusals.specs.declared.cause.Cause.TheVariants as why
use Rattle.refusals.specs.declared.place.Rejection.{Rejection}
use Rattle.spelling.specs.Algorithms.{combining_of, combining_word}
use Rattle.spelling.specs.Cuts.{Six, parts, six_of}
use Rattle.spelling.specs.Numbers.{number_of, action_of, to_fifteen}
use Rattle.spelling.specs.Words.{is_word, is_text, name_of, text_of}
use Rattle.spelling.specs.declared.algorithm.Algorithm.{Algorithm}
use Rattle.spelling.specs.declared.algorithm.Algorithm.TheVariants as a
use Rattle.spelling.specs.declared.algorithm.Combining.{Combining}
use Rattle.spelling.specs.declared.algorithm.Strategy.{Strategy}
use Rattle.spelling.specs.declared.algorithm.Strategy.TheVariants as s
use Rattle.spelling.proofs.Forward.{over, plain, over-both, over-ten, cut_front, six-forward, is_word_plain, number_plain, decimal_number, decimal_plain, not_dash}
use Rattle.spelling.proofs.Inversions.{held, bind-some}
use Rattle.policy.specs.declared.line.Family.{Family}
use Rattle.policy.specs.declared.line.Family.TheVariants as family
use Rattle.policy.specs.declared.line.Operator.{Operator}
use Rattle.policy.specs.declared.line.Operator.TheVariants as o
use Rattle.policy.specs.declared.line.Force.{Force}
use Rattle.policy.specs.declared.line.Force.TheVariants.{Must, May}
use Rattle.policy.specs.declared.line.Effect.{Effect}
use Rattle.policy.specs.declared.line.Effect.TheVariants.{Permit, Deny}
use Rattle.policy.specs.declared.line.Line.{Line}
use Rattle.policy.specs.declared.line.Line.TheVariants as l
use Rattle.policy.specs.Lines.{family_of, same_family, line_at, Reference, names, may_name, references}
use Rattle.policy.specs.Check.{Marks, no_marks, marking, above, refer_of, may_refer_of, some, line_of, step_of, unmarked_from, all_named, end_of, rejected, body_of, after_header, check_of}
use Rattle.policy.specs.Spelt.{truth_word, operator_word, force_word, effect_word, optional, fields_for, row, rows, spelt}
use Rattle.policy.specs.Tree.{is_sound, all_sound, times, namings, Tree}
use Rattle.policy.specs.WellSpelt.{WellSpelt, AllWellSpelt, Spells}
use Rattle.policy.proofs.Laws.{namings-both, unmarked_start}
use Rattle.policy.proofs.Named.{mark, flagged}
use Rattle.policy.proofs.Turns.{body_more}

-- the marks after the references rs
abbrev marks_after : Marks → List Reference → Marks
marks_after ms [] = ms
marks_after ms (r ∷ rs) = marks_after (set ms r.line true) rs

-- no reference names a line twice, or a marked one
Fresh : Marks → List Reference → Type 0
Fresh ms [] = Unit {0}
Fresh ms (r ∷ rs) = (get_or ms r.line false ≡ false) × Fresh (set ms r.line true) rs

-- each of the references is to a line from 1 to top
Within : ℕ → List Reference → Type 0
Within top [] = Unit {0}
Within top (r ∷ rs) = (0 < r.line) × (r.line ≤ top) × Within top rs

sound_within : (ls : List Line) (rs : List Reference) → all_sound ls (length ls + 1) rs ≡ true → Within (length ls) rs
unfolding Within
sound_within ls [] h = tt
sound_within ls (r ∷ rs) h =
    let p = and_parts (is_sound ls (length ls + 1) r) (all_sound ls (length ls + 1) rs) h in
    let q = and_parts (ltb 0 r.line) (ltb r.line (length ls + 1) && same_family (family_of (line_at ls r.line)) r.family) p.0 in
    let t = and_parts (ltb r.line (length ls + 1)) (same_family (family_of (line_at ls r.line)) r.family) q.1 in
    let lo : 0 < r.line = grind (arith, nat_tests) in
    let hi : r.line < length ls + 1 = grind (arith, nat_tests) in
    (lo, omega arith, sound_within ls rs p.1)

-- the references are to lines above, of the families asked for, and fresh
Fits : List Line → Marks → List Reference → Type 0
Fits ls ms rs = (all_sound ls (length ls + 1) rs ≡ true) × Fresh ms rs

fits : (ls : List Line) (ms : Marks) (rs : List Reference) → all_sound ls (length ls + 1) rs ≡ true → Fresh ms rs → Fits ls ms rs
unfolding Fits
fits ls ms rs p q = (p, q)

-- one reference

refer_forward : (want : Family) (ls : List Line) (ms : Marks) (k : ℕ) (rs : List Reference) → length ls ≤ 256 → Fits ls ms (names want k ++ rs) → (refer_of want ls ms (decimal k) ≡ Ok (k, set ms k true)) × Fits ls (set ms k true) rs
unfolding Fits Fresh
refer_forward want ls ms k rs few f =
    let p = and_parts (is_sound ls (length ls + 1) (record { family = want; line = k })) (all_sound ls (length ls + 1) rs) f.0 in
    let q = and_parts (ltb 0 k) (ltb k (length ls + 1) && same_family (family_of (line_at ls k)) want) p.0 in
    let r = and_parts (ltb k (length ls + 1)) (same_family (family_of (line_at ls k)) want) q.1 in
    let lo : 0 < k = grind (arith, nat_tests) in
    let hi : k < length ls + 1 = grind (arith, nat_tests) in
    let n = decimal_number k (omega arith) in
    let t : leb 1 k && leb k (length ls) ≡ true = grind (arith, nat_tests) in (
      (λ i. bind_r (or_refuse (n i) why.Misspelt) (λ z. bind_r (or_refuse (above (length ls) z) why.NotAbove) (λ m. cond (same_family (family_of (line_at ls m)) want) (cond (get_or ms m false) (Err why.NamedTwice) (Ok (m, set ms m true))) (Err why.WrongFamily))))
          ∙ (λ i. bind_r (or_refuse (cond (t i) (Some k) None) why.NotAbove) (λ m. cond (same_family (family_of (line_at ls m)) want) (cond (get_or ms m false) (Err why.NamedTwice) (Ok (m, set ms m true))) (Err why.WrongFamily)))
          ∙ (λ i. cond (r.1 i) (cond (f.1.0 i) (Err why.NamedTwice) (Ok (k, set ms k true))) (Err why.WrongFamily)),
      (p.1, f.1.1),
    )

marks_both : (ms : Marks) (rs ss : List Reference) → marks_after ms (rs ++ ss) ≡ marks_after (marks_after ms rs) ss
marks_both ms [] ss = refl
marks_both ms (r ∷ rs) ss = marks_both (set ms r.line true) rs ss

may_forward : (want : Family) (ls : List Line) (ms : Marks) (o : Option ℕ) (rs : List Reference) → length ls ≤ 256 → Fits ls ms (may_name want o ++ rs) → (may_refer_of want ls ms (optional o) ≡ Ok (o, marks_after ms (may_name want o))) × Fits ls (marks_after ms (may_name want o)) rs
unfolding Fits Within
may_forward want ls ms None rs few f = (refl, f)
may_forward want ls ms (Some k) rs few f =
    let r = refer_forward want ls ms k rs few f in
    let above = (sound_within ls (names want k ++ rs) f.0).1 in
    let no = not_dash (decimal k) (pos k) (decimal_number k (omega (arith, few, above))) in
    ((λ i. cond (no i) (Ok (None, ms)) (some (r.0 i))), r.1)

may_last : (want : Family) (ls : List Line) (ms : Marks) (o : Option ℕ) → length ls ≤ 256 → Fits ls ms (may_name want o) → may_refer_of want ls ms (optional o) ≡ Ok (o, marks_after ms (may_name want o))
may_last want ls ms o few f = (may_forward want ls ms o [] few (subst (Fits ls ms) (sym (append-nil (may_name want o))) f)).0

-- an algorithm with its strategy

combining_forward : (x : Algorithm) (y : Strategy) → let c : Combining = record { algorithm = x; strategy = y } in (combining_of (combining_word c) ≡ Some c) × (plain (combining_word c) ≡ true)
combining_forward a.PermitOverrides s.All = (refl, refl)
combining_forward a.PermitOverrides s.Greedy = (refl, refl)
combining_forward a.DenyOverrides s.All = (refl, refl)
combining_forward a.DenyOverrides s.Greedy = (refl, refl)
combining_forward a.DenyUnlessPermit s.All = (refl, refl)
combining_forward a.DenyUnlessPermit s.Greedy = (refl, refl)
combining_forward a.PermitUnlessDeny s.All = (refl, refl)
combining_forward a.PermitUnlessDeny s.Greedy = (refl, refl)
combining_forward a.FirstApplicable s.All = (refl, refl)
combining_forward a.FirstApplicable s.Greedy = (refl, refl)
combining_forward a.OneApplicable s.All = (refl, refl)
combining_forward a.OneApplicable s.Greedy = (refl, refl)
combining_forward a.WeakConsensus s.All = (refl, refl)
combining_forward a.WeakConsensus s.Greedy = (refl, refl)
combining_forward a.StrongConsensus s.All = (refl, refl)
combining_forward a.StrongConsensus s.Greedy = (refl, refl)

-- a line

module _ (ls : List Line) (ms : Marks) (few : length ls ≤ 256) where
  abbrev Reads : Line → Type 0
  Reads x = line_of ls ms (fields_for x) ≡ Ok (x, marks_after ms (references x))

  binary_forward : (op : Operator) (j k : ℕ) → Fits ls ms (references (l.Binary op j k)) → (line_of ls ms (fields_for (l.Binary op j k)) ≡ bind_r (at_field 2 (refer_of family.Expression ls ms (decimal j))) (λ a. bind_r (at_field 3 (refer_of family.Expression ls (a).1 (decimal k))) (λ b. Ok (l.Binary op (a).0 b.0, b.1)))) → Reads (l.Binary op j k)
  binary_forward op j k f e =
      let r = refer_forward family.Expression ls ms j (names family.Expression k) few f in
      let q = refer_forward family.Expression ls (set ms j true) k [] few r.1 in
      e ∙ (λ i. bind_r (at_field 2 (r.0 i)) (λ a. bind_r (at_field 3 (refer_of family.Expression ls (a).1 (decimal k))) (λ b. Ok (l.Binary op (a).0 b.0, b.1))))
      ∙ (λ i. bind_r (at_field 3 (q.0 i)) (λ b. Ok (l.Binary op j b.0, b.1)))

  rule_forward : (effect : Effect) (t : ℕ) (d : Option ℕ) → Fits ls ms (references (l.Rule effect t d)) → (line_of ls ms (fields_for (l.Rule effect t d)) ≡ bind_r (at_field 2 (refer_of family.Expression ls ms (decimal t))) (λ a. bind_r (at_field 3 (may_refer_of family.Duty ls (a).1 (optional d))) (λ b. Ok (l.Rule effect (a).0 b.0, b.1)))) → Reads (l.Rule effect t d)
  rule_forward effect t d f e =
      let r = refer_forward family.Expression ls ms t (may_name family.Duty d) few f in
      let q = may_last family.Duty ls (set ms t true) d few r.1 in
      e ∙ (λ i. bind_r (at_field 2 (r.0 i)) (λ a. bind_r (at_field 3 (may_refer_of family.Duty ls (a).1 (optional d))) (λ b. Ok (l.Rule effect (a).0 b.0, b.1))))
      ∙ (λ i. bind_r (at_field 3 (q i)) (λ b. Ok (l.Rule effect t b.0, b.1)))

  duty_forward : (force : Force) (act e : ℕ) (d : Option ℕ) → action_of (decimal act) ≡ Some act → Fits ls ms (references (l.Duty force act e d))
      → (line_of ls ms (fields_for (l.Duty force act e d)) ≡ bind_r (at_field 2 (or_refuse (action_of (decimal act)) why.Misspelt)) (λ a. bind_r (at_field 3 (refer_of family.Expression ls ms (decimal e))) (λ b. bind_r (at_field 4 (may_refer_of family.Duty ls b.1 (optional d))) (λ c. Ok (l.Duty force a b.0 c.0, c.1)))))
      → Reads (l.Duty force act e d)
  duty_forward force act e d w f g =
      let r = refer_forward family.Expression ls ms e (may_name family.Duty d) few f in
      let q = may_last family.Duty ls (set ms e true) d few r.1 in
      g ∙ (λ i. bind_r (at_field 2 (or_refuse (w i) why.Misspelt)) (λ a. bind_r (at_field 3 (r.0 i)) (λ b. bind_r (at_field 4 (may_refer_of family.Duty ls b.1 (optional d))) (λ c. Ok (l.Duty force a b.0 c.0, c.1)))))
      ∙ (λ i. bind_r (at_field 4 (q i)) (λ c. Ok (l.Duty force act e c.0, c.1)))

  item_forward : (p : ℕ) (d : Option ℕ) → Fits ls ms (references (l.Item p d)) → Reads (l.Item p d)
  item_forward p d f =
      let r = refer_forward family.Policy ls ms p (may_name family.Item d) few f in
      let q = may_last family.Item ls (set ms p true) d few r.1 in
      (λ i. bind_r (at_field 2 (r.0 i)) (λ a. bind_r (at_field 3 (may_refer_of family.Item ls (a).1 (optional d))) (λ b. Ok (l.Item (a).0 b.0, b.1))))
      ∙ (λ i. bind_r (at_field 3 (q i)) (λ b. Ok (l.Item p b.0, b.1)))

  not_forward : (j : ℕ) → Fits ls ms (references (l.Not j)) → Reads (l.Not j)
  not_forward j f =
      let r = refer_forward family.Expression ls ms j [] few f in
      (λ i. bind_r (at_field 2 (r.0 i)) (λ a. Ok (l.Not (a).0, (a).1)))

  set-forward : (c : Combining) (t i : ℕ) (p d : Option ℕ) → combining_of (combining_word c) ≡ Some c → Fits ls ms (references (l.Set c t i p d)) → Reads (l.Set c t i p d)
  set-forward c t it p d w f =
      let r = refer_forward family.Expression ls ms t (names family.Item it ++ (may_name family.Duty p ++ may_name family.Duty d)) few f in
      let q = refer_forward family.Item ls (set ms t true) it (may_name family.Duty p ++ may_name family.Duty d) few r.1 in
      let m = set (set ms t true) it true in
      let u = may_forward family.Duty ls m p (may_name family.Duty d) few q.1 in
      let m' = marks_after m (may_name family.Duty p) in
      let v = may_last family.Duty ls m' d few u.1 in
      (λ i. bind_r (at_field 2 (or_refuse (w i) why.UnknownAlgorithm)) (λ a. bind_r (at_field 3 (r.0 i)) (λ b. bind_r (at_field 4 (refer_of family.Item ls b.1 (decimal it))) (λ e. bind_r (at_field 5 (may_refer_of family.Duty ls e.1 (optional p))) (λ g. bind_r (at_field 6 (may_refer_of family.Duty ls g.1 (optional d))) (λ h. Ok (l.Set a b.0 e.0 g.0 h.0, h.1)))))))
      ∙ (λ i. bind_r (at_field 4 (q.0 i)) (λ e. bind_r (at_field 5 (may_refer_of family.Duty ls e.1 (optional p))) (λ g. bind_r (at_field 6 (may_refer_of family.Duty ls g.1 (optional d))) (λ h. Ok (l.Set c t e.0 g.0 h.0, h.1)))))
      ∙ (λ i. bind_r (at_field 5 (u.0 i)) (λ g. bind_r (at_field 6 (may_refer_of family.Duty ls g.1 (optional d))) (λ h. Ok (l.Set c t it g.0 h.0, h.1))))
      ∙ (λ i. bind_r (at_field 6 (v i)) (λ h. Ok (l.Set c t it p h.0, h.1)))
      ∙ ap (λ ns. Ok (l.Set c t it p d, ns)) (sym (marks_both m (may_name family.Duty p) (may_name family.Duty d)))

  attribute_forward : (x : _) → name_of x ≡ Some x → Reads (l.Attribute x)
  attribute_forward x w = (λ i. marking (bind_r (at_field 2 (or_refuse (w i) why.Misspelt)) (λ y. Ok (l.Attribute y))) ms)

  number_forward : (z : ℤ) → number_of (signed_decimal z) ≡ Some z → Reads (l.Number z)
  number_forward z w = (λ i. marking (bind_r (at_field 2 (or_refuse (w i) why.Misspelt)) (λ y. Ok (l.Number y))) ms)

  text_forward : (x : _) → text_of x ≡ Some x → Reads (l.Text x)
  text_forward x w = (λ i. marking (bind_r (at_field 2 (or_refuse (w i) why.Misspelt)) (λ y. Ok (l.Text y))) ms)

  operator_forward : (op : Operator) (j k : ℕ) → Fits ls ms (references (l.Binary op j k)) → Reads (l.Binary op j k)
  operator_forward o.And j k f = binary_forward o.And j k f refl
  operator_forward o.Or j k f = binary_forward o.Or j k f refl
  operator_forward o.Equal j k f = binary_forward o.Equal j k f refl
  operator_forward o.In j k f = binary_forward o.In j k f refl
  operator_forward o.Greater j k f = binary_forward o.Greater j k f refl
  operator_forward o.Add j k f = binary_forward o.Add j k f refl
  operator_forward o.Sub j k f = binary_forward o.Sub j k f refl
  operator_forward o.Mul j k f = binary_forward o.Mul j k f refl
  operator_forward o.Div j k f = binary_forward o.Div j k f refl

  line_forward : (x : Line) → WellSpelt x → Fits ls ms (references x) → Reads x
  line_forward (l.Truth true) w f = refl
  line_forward (l.Truth false) w f = refl
  line_forward (l.Attribute x) w f = attribute_forward x w
  line_forward (l.Number z) w f = number_forward z w
  line_forward (l.Text x) w f = text_forward x w
  line_forward (l.Not j) w f = not_forward j f
  line_forward (l.Binary op j k) w f = operator_forward op j k f
  line_forward (l.Duty Must a e d) w f = duty_forward Must a e d w f refl
  line_forward (l.Duty May a e d) w f = duty_forward May a e d w f refl
  line_forward (l.Item p d) w f = item_forward p d f
  line_forward (l.Rule Permit t d) w f = rule_forward Permit t d f refl
  line_forward (l.Rule Deny t d) w f = rule_forward Deny t d f refl
  line_forward (l.Set c t i p d) w f = set-forward c t i p d (combining_forward c.algorithm c.strategy).0 f

-- the fields of a line are plain

module _ (top : ℕ) (few : top ≤ 256) where
  named-plain : (want : Family) (k : ℕ) (rs : List Reference) → Within top (names want k ++ rs) → (plain (decimal k) ≡ true) × Within top rs
  unfolding Within
  named-plain want k rs s = (decimal_plain k (omega (arith, s.1)), s.2)

  optional-plain : (want : Family) (d : Option ℕ) (rs : List Reference) → Within top (may_name want d ++ rs) → (plain (optional d) ≡ true) × Within top rs
  unfolding Within
  optional-plain want None rs s = (refl, s)
  optional-plain want (Some k) rs s = (decimal_plain k (omega (arith, s.1)), s.2)

  last_plain : (want : Family) (d : Option ℕ) → Within top (may_name want d) → plain (optional d) ≡ true
  last_plain want d s = (optional-plain want d [] (subst (Within top) (sym (append-nil (may_name want d))) s)).0

record PlainSix (f : Six) : Type 0 where
  kind : plain f.kind ≡ true
  a : plain f.a ≡ true
  b : plain f.b ≡ true
  c : plain f.c ≡ true
  d : plain f.d ≡ true
  e : plain f.e ≡ true

name_plain : (xs : List ℕ) (x : _) → name_of xs ≡ Some x → plain xs ≡ true
name_plain xs x h = is_word_plain true xs (held (is_word true xs) (name_for xs) x h).0

text_plain : (xs : List ℕ) (x : _) → text_of xs ≡ Some x → plain xs ≡ true
text_plain xs x h = is_word_plain false xs (and_parts (is_word false xs) _ (held (is_text xs) (text_for xs) x h).0).0

action_plain : (xs : List ℕ) (k : ℕ) → action_of xs ≡ Some k → plain xs ≡ true
action_plain xs k h = let p = bind-some (number_of xs) to_fifteen k h in number_plain xs p.0 p.1.0

operator_plain : (op : Operator) → plain (operator_word op) ≡ true
operator_plain o.And = refl
operator_plain o.Or = refl
operator_plain o.Equal = refl
operator_plain o.In = refl
operator_plain o.Greater = refl
operator_plain o.Add = refl
operator_plain o.Sub = refl
operator_plain o.Mul = refl
operator_plain o.Div = refl

truth_plain : (v : Bool) → plain (truth_word v) ≡ true
truth_plain true = refl
truth_plain false = refl

force_plain : (f : Force) → plain (force_word f) ≡ true
force_plain Must = refl
force_plain May = refl

effect_plain : (e : Effect) → plain (effect_word e) ≡ true
effect_plain Permit = refl
effect_plain Deny = refl

fields_plain : (x : Line) → WellSpelt x → (top : ℕ) → top ≤ 256 → Within top (references x) → PlainSix (fields_for x)
fields_plain (l.Truth v) w top few s = record { kind = truth_plain v; a = refl; b = refl; c = refl; d = refl; e = refl }
fields_plain (l.Attribute x) w top few s = record { kind = refl; a = name_plain x x w; b = refl; c = refl; d = refl; e = refl }
fields_plain (l.Number z) w top few s = record { kind = refl; a = number_plain (signed_decimal z) z w; b = refl; c = refl; d = refl; e = refl }
fields_plain (l.Text x) w top few s = record { kind = refl; a = text_plain x x w; b = refl; c = refl; d = refl; e = refl }
fields_plain (l.Not j) w top few s = record { kind = refl; a = (named-plain top few family.Expression j [] s).0; b = refl; c = refl; d = refl; e = refl }
fields_plain (l.Binary op j k) w top few s =
    let p = named-plain top few family.Expression j (names family.Expression k) s in
    record { kind = operator_plain op; a = p.0; b = (named-plain top few family.Expression k [] p.1).0; c = refl; d = refl; e = refl }
fields_plain (l.Duty f n x y) w top few s =
    let p = named-plain top few family.Expression x (may_name family.Duty y) s in
    record { kind = force_plain f; a = action_plain (decimal n) n w; b = p.0; c = last_plain top few family.Duty y p.1; d = refl; e = refl }
fields_plain (l.Item x y) w top few s =
    let p = named-plain top few family.Policy x (may_name family.Item y) s in
    record { kind = refl; a = p.0; b = last_plain top few family.Item y p.1; c = refl; d = refl; e = refl }
fields_plain (l.Rule f x y) w top few s =
    let p = named-plain top few family.Expression x (may_name family.Duty y) s in
    record { kind = effect_plain f; a = p.0; b = last_plain top few family.Duty y p.1; c = refl; d = refl; e = refl }
fields_plain (l.Set g x y u v) w top few s =
    let p = named-plain top few family.Expression x (names family.Item y ++ (may_name family.Duty u ++ may_name family.Duty v)) s in
    let q = named-plain top few family.Item y (may_name family.Duty u ++ may_name family.Duty v) p.1 in
    let r = optional-plain top few family.Duty u (may_name family.Duty v) q.1 in
    record { kind = refl; a = (combining_forward g.algorithm g.strategy).1; b = p.0; c = q.0; d = r.0; e = last_plain top few family.Duty v r.1 }

row-over : (f : Six) → PlainSix f → over 10 (row f) ≡ true
row-over f p =
    over-both 10 f.kind _ (over-ten f.kind p.kind) (over-both 10 f.a _ (over-ten f.a p.a) (over-both 10 f.b _ (over-ten f.b p.b)
    (over-both 10 f.c _ (over-ten f.c p.c) (over-both 10 f.d _ (over-ten f.d p.d) (over-ten f.e p.e)))))

step_forward : (ls : List Line) (ms : Marks) (x : Line) (ys : List ℕ) → length ls ≤ 256 → WellSpelt x → Fits ls ms (references x) → step_of ls ms (row (fields_for x) ++ 10 ∷ ys) ≡ Ok (x, marks_after ms (references x), ys)
unfolding Fits
step_forward ls ms x ys few w f =
    let p = fields_plain x w (length ls) few (sound_within ls (references x) f.0) in
    let cut = cut_front 10 (row (fields_for x)) ys (row-over (fields_for x) p) in
    let fields = six-forward (fields_for x) p.kind p.a p.b p.c p.d p.e in
    let line = line_forward ls ms few x w f in
    (λ i. bind_r (at_field 0 (or_refuse (cut i) why.Shape)) (λ q. bind_r (at_field 0 (or_refuse (six_of (parts 32 q.0)) why.Shape)) (λ g. bind_r (line_of ls ms g) (λ t. Ok (t.0, t.1, q.1)))))
    ∙ (λ i. bind_r (at_field 0 (or_refuse (fields i) why.Shape)) (λ g. bind_r (line_of ls ms g) (λ t. Ok (t.0, t.1, ys))))
    ∙ (λ i. bind_r (line i) (λ t. Ok (t.0, t.1, ys)))

-- the marks

unmarked : (ms : Marks) (k : ℕ) (b : Bool) → get_or ms k false ≡ b → mark ms k ≡ 0 → get_or ms k false ≡ false
unmarked ms k true e h = let z = ap {B = ℕ} (λ t. cond t 1 0) e in absurd (omega (arith, z, h))
unmarked ms k false e h = e

fresh_of : (top : ℕ) (rs : List Reference) (ms : Marks) → top < length ms → Within top rs → ((k : ℕ) → 0 < k → k ≤ top → times k rs + mark ms k ≤ 1) → Fresh ms rs
unfolding Fresh Within
fresh_of top [] ms lt w c = tt
fresh_of top (r ∷ rs) ms lt w c =
    let j = r.line in
    let same : eqb j j ≡ true = grind (arith, nat_tests) in
    let one = ap {B = ℕ} (λ t. cond t 1 0) same in
    let here = c j w.0 w.1 in
    let off = unmarked ms j (get_or ms j false) refl (omega (arith, one, here)) in (
      off,
      fresh_of top rs (set ms j true) (omega (arith, length-set ms j true)) w.2
          (λ k lo hi. let f = flagged ms j k (omega (arith, w.1)) off in let h = c k lo hi in omega (arith, f, h)),
    )

marked_so : (top : ℕ) (rs : List Reference) (ms : Marks) → top < length ms → Within top rs → Fresh ms rs → (k : ℕ) → mark (marks_after ms rs) k ≡ times k rs + mark ms k
unfolding Fresh Within
marked_so top [] ms lt w f k = omega arith
marked_so top (r ∷ rs) ms lt w f k =
    let e = marked_so top rs (set ms r.line true) (omega (arith, length-set ms r.line true)) w.2 f.1 k in
    let g = flagged ms r.line k (omega (arith, w.1)) f.0 in
    omega (arith, e, g)

marks_length : (rs : List Reference) (ms : Marks) → length (marks_after ms rs) ≡ length ms
marks_length [] ms = refl
marks_length (r ∷ rs) ms = marks_length rs (set ms r.line true) ∙ length-set ms r.line true

-- what holds of the whole list holds of its front

sound_front : (ls zs : List Line) (rs : List Reference) → all_sound (ls ++ zs) (length ls + 1) rs ≡ true → all_sound ls (length ls + 1) rs ≡ true
sound_front ls zs [] h = refl
sound_front ls zs (r ∷ rs) h =
    let p = and_parts (is_sound (ls ++ zs) (length ls + 1) r) (all_sound (ls ++ zs) (length ls + 1) rs) h in
    let q = and_parts (ltb 0 r.line) (ltb r.line (length ls + 1) && same_family (family_of (line_at (ls ++ zs) r.line)) r.family) p.0 in
    let t = and_parts (ltb r.line (length ls + 1)) (same_family (family_of (line_at (ls ++ zs) r.line)) r.family) q.1 in
    let lo : 0 < r.line = grind (arith, nat_tests) in
    let hi : r.line < length ls + 1 = grind (arith, nat_tests) in
    let e = get_or_append_left ls zs (l.Truth false) (r.line - 1) (omega arith) in
    (λ i. (ltb 0 r.line && (ltb r.line (length ls + 1) && same_family (family_of (sym e i)) r.family)) && sound_front ls zs rs p.1 i)
    ∙ ap (λ u. u && true) p.0

-- the end of the file

all-marked : (m : ℕ) (bs : Marks) → ((k : ℕ) → k < length bs → get_or bs k false ≡ true) → unmarked_from m bs ≡ None
all-marked m [] f = refl
all-marked m (b ∷ bs) f = ap (λ t. cond t (unmarked_from (m + 1) bs) (Some m)) (f 0 (omega arith)) ∙ all-marked (m + 1) bs (λ k lt. f (suc k) (omega arith))

set-mark : (ms : Marks) (k : ℕ) (b : Bool) → get_or ms k false ≡ b → mark ms k ≡ 1 → get_or ms k false ≡ true
set-mark ms k true e h = e
set-mark ms k false e h = let z = ap {B = ℕ} (λ t. cond t 1 0) e in absurd (omega (arith, z, h))

end_forward : (ls : List Line) (ms : Marks) → Tree ls → ((k : ℕ) → namings k ls ≡ mark ms k) → length ms ≡ 257 → end_of ls ms ≡ Ok tt
end_forward ls ms t c n =
    let few = t.few in
    let have = t.some in
    let part = take (length ls - 1) (drop 1 ms) in
    let d = length-drop 1 ms in
    let size : length part ≡ length ls - 1 = length-take-le (length ls - 1) (drop 1 ms) (omega (arith, d, n, few)) in
    let no : eqb (length ls) 0 ≡ false = grind (arith, nat_tests) in
    let named = all-marked 1 part (λ k lt.
    let p = get_or-take (length ls - 1) (drop 1 ms) k false (omega (arith, size)) in
    let q = get_or-drop 1 ms k false in
    let one = t.once (1 + k) (omega arith) (omega (arith, size)) in
    p ∙ q ∙ set-mark ms (1 + k) (get_or ms (1 + k) false) refl (sym (c (1 + k)) ∙ one)) in
    (λ i. cond (no i) (rejected why.LineCount 1) (bind_r (all_named (named i)) (λ _. cond (t.last i) (Ok tt) (rejected why.LastNotPolicy (length ls)))))

-- all lines

body_forward : (rest done : List Line) (ms : Marks) (left : ℕ) → left + length done ≡ 256 → ((k : ℕ) → namings k done ≡ mark ms k) → length ms ≡ 257 → Tree (done ++ rest) → AllWellSpelt (done ++ rest) → body_of left done ms (rows rest) ≡ Ok (done ++ rest)
body_forward [] done ms left n c lm t w =
    let e = append-nil done in
    let u = subst Tree e t in
    ap (λ r. bind_r r (λ _. Ok done)) (end_forward done ms u c lm) ∙ ap Ok (sym e)
body_forward (x ∷ rest) done ms zero n c lm t w =
    let a = length-append done (x ∷ rest) in let f = t.few in absurd (omega (arith, a, f))
body_forward (x ∷ rest) done ms (suc left) n c lm t w =
    let whole = done ++ x ∷ rest in
    let size = length-append done (x ∷ rest) in
    let few : length done ≤ 256 = omega arith in
    let place = length done + 1 in
    let here : line_at whole place ≡ x = get_or_at done x rest (l.Truth false) (place - 1) (omega arith) in
    let spelled = subst WellSpelt here (w place (omega arith) (omega (arith, size))) in
    let sound = sound_front done (x ∷ rest) (references x) (ap (λ y. all_sound whole place (references y)) (sym here) ∙ t.above place (omega arith) (omega (arith, size))) in
    let within = sound_within done (references x) sound in
    let fresh = fresh_of (length done) (references x) ms (omega (arith, lm)) within
    (λ k lo hi. let once = t.once k lo (omega (arith, size)) in let b = namings-both k done (x ∷ rest) in let m = c k in omega (arith, once, b, m)) in
    let ns = marks_after ms (references x) in
    let step = step_forward done ms x (rows rest) few spelled (fits done ms (references x) sound fresh) in
    let line-size = length-append (row (fields_for x)) (10 ∷ rows rest) in
    let again = append_assoc done (x ∷ []) rest in
    let pushed = length_push done x in
    body_more left done ms (row (fields_for x) ++ 10 ∷ rows rest) (omega (arith, line-size))
    ∙ (λ i. bind_r (at_line place (step i)) (λ q. body_of left (done ++ q.0 ∷ []) q.1 q.2))
    ∙ body_forward rest (done ++ x ∷ []) ns left (omega (arith, pushed))
    (λ k. let p = namings-both k done (x ∷ []) in let m = marked_so (length done) (references x) ms (omega (arith, lm)) within fresh k in let h = c k in omega (arith, p, m, h))
    (marks_length (references x) ms ∙ lm) (subst Tree (sym again) t) (subst AllWellSpelt (sym again) w)
    ∙ ap Ok again

-- the file of a tree of lines that can be spelled is accepted as these lines
pub every_tree : (ls : List Line) → Tree ls → AllWellSpelt ls → check_of (spelt ls) ≡ Ok ls
unfolding no_marks
every_tree ls t w =
    let cut = cut_front 10 (codes "kind a b c d e") (rows ls) refl in
    ap after_header (ap (λ o. bind o (λ p. cond (bytes_eq p.0 (codes "kind a b c d e")) (Some p.1) None)) cut)
    ∙ body_forward ls [] no_marks 256 refl (λ k. ap (λ b. cond b 1 0) (sym (unmarked_start 257 k))) refl t w

-- no file that spells a tree is refused
pub not_refused : (xs : List ℕ) (ls : List Line) (e : Rejection) → Spells xs ls → check_of xs ≡ Err e → ⊥
not_refused xs ls e h r =
    let ok : check_of xs ≡ Ok ls = ap check_of (sym h.file) ∙ every_tree ls h.tree h.fields in
    let z : ◌≡◌ {A = ℕ} 0 1 = cc in
    omega arith
