-- What holds of every accepted file.
use Rattle.std.proofs.lemmas.Option.{same_Some}
use Rattle.std.proofs.Common.{◌≡◌, ℕ, zero, suc, ◌+◌, ◌-◌, ◌<◌, ◌≤◌, true, false, cond, ◌&&◌, eqb, ltb, List, [], ◌∷◌, ◌++◌, length, get_or, take, drop, replicate, Some, None, Ok, codes, Option, sym, refl, ap, ◌∙◌, subst, ⊎_elim, append_assoc, arith, length-drop}
use Rattle.std.proofs.lemmas.List.{length_push, length-take-le, get_or-take, get_or-drop, append-nil, get_or_append_left, get_or_push}
use Rattle.std.proofs.lemmas.Bool.{and_parts, cases_eq, eqb-false}
use Rattle.std.proofs.lemmas.Bool.Decides.{nat_tests}
use Rattle.std.specs.Str.{bytes_eq}
use Rattle.refusals.specs.Results.{or_refuse}
use Rattle.refusals.specs.Places.{at_line}
use Rattle.refusals.specs.declared.cause.Cause.TheVariants as why
use Rattle.spelling.specs.Cuts.{cut_of, parts, six_of}
use Rattle.spelling.proofs.Back.{cut_back, fields_back}
use Rattle.spelling.proofs.Inversions.{bind-some, held, same}
use Rattle.policy.specs.declared.line.Family.TheVariants as family
use Rattle.policy.specs.declared.line.Line.{Line}
use Rattle.policy.specs.declared.line.Line.TheVariants as l
use Rattle.policy.specs.Lines.{family_of, same_family, line_at, Reference, references}
use Rattle.policy.specs.Check.{Marks, no_marks, step_of, line_of, unmarked_from, all_named, end_of, body_of, header_of, after_header, check_of}
use Rattle.policy.specs.Spelt.{fields_for, row, rows, spelt}
use Rattle.policy.specs.Tree.{is_sound, all_sound, namings, Tree}
use Rattle.refusals.proofs.Inversions.{bind_ok, field_bind, ok_same, or_ok, passed, cleared, line_ok}
use Rattle.policy.specs.WellSpelt.{WellSpelt, AllWellSpelt, Spells}
use Rattle.policy.proofs.LineLaws.{line_reads}
use Rattle.policy.proofs.Named.{mark, Named}

pub namings-both : (k : ℕ) (ls zs : List Line) → namings k (ls ++ zs) ≡ namings k ls + namings k zs
namings-both k [] zs = omega arith
namings-both k (x ∷ ls) zs = let e = namings-both k ls zs in omega (arith, e)

-- lines above stay what they are
line_kept : (ls : List Line) (x : Line) (k : ℕ) → 0 < k → k ≤ length ls → line_at (ls ++ x ∷ []) k ≡ line_at ls k
line_kept ls x k lo hi = get_or_append_left ls (x ∷ []) (l.Truth false) (k - 1) (omega arith)

sound_one : (ls : List Line) (x : Line) (n : ℕ) (r : Reference) → n ≤ length ls + 1 → is_sound ls n r ≡ true → is_sound (ls ++ x ∷ []) n r ≡ true
sound_one ls x n r le h =
    let lo : 0 < r.line = grind (arith, nat_tests) in
    let hi : r.line < n = grind (arith, nat_tests) in
    let e = line_kept ls x r.line lo (omega arith) in
    ap (λ y. ltb 0 r.line && (ltb r.line n && same_family (family_of y) r.family)) e ∙ h

sound_kept : (ls : List Line) (x : Line) (n : ℕ) (rs : List Reference) → n ≤ length ls + 1 → all_sound ls n rs ≡ true → all_sound (ls ++ x ∷ []) n rs ≡ true
sound_kept ls x n [] le h = refl
sound_kept ls x n (r ∷ rs) le h =
    let p = and_parts (is_sound ls n r) (all_sound ls n rs) h in
    (λ i. sound_one ls x n r le p.0 i && sound_kept ls x n rs le p.1 i)

-- the lines so far and their marks
record Good (ls : List Line) (ms : Marks) : Type 0 where
  counts : (k : ℕ) → namings k ls ≡ mark ms k
  long : length ms ≡ 257
  sound : (n : ℕ) → 0 < n → n ≤ length ls → all_sound ls n (references (line_at ls n)) ≡ true
  spelled : AllWellSpelt ls

good_more : (ls : List Line) (ms ns : Marks) (x : Line) → Good ls ms → Named ls ms (references x) ns → WellSpelt x → Good (ls ++ x ∷ []) ns
good_more ls ms ns x g n w = record {
  counts = λ k. omega (arith, namings-both k ls (x ∷ []), g.counts k, n.counts k);
  long = n.long ∙ g.long;
  sound = λ m lo hi. ⊎_elim
      (λ e. let last : line_at (ls ++ x ∷ []) m ≡ x = get_or_push ls x (l.Truth false) (m - 1) (omega arith) in
      let top : m ≡ length ls + 1 = omega arith in
      ap (λ y. all_sound (ls ++ x ∷ []) m (references y)) last ∙ sound_kept ls x m (references x) (omega arith) (ap (λ j. all_sound ls j (references x)) top ∙ n.sound))
      (λ ne. let len = length_push ls x in
      let in-old : m ≤ length ls = omega (arith, len) in
      ap (λ y. all_sound (ls ++ x ∷ []) m (references y)) (line_kept ls x m lo in-old) ∙ sound_kept ls x m (references (line_at ls m)) (omega arith) (g.sound m lo in-old))
      (cases_eq m (length ls + 1));
  spelled = λ m lo hi. ⊎_elim
      (λ e. let last : line_at (ls ++ x ∷ []) m ≡ x = get_or_push ls x (l.Truth false) (m - 1) (omega arith) in subst WellSpelt (sym last) w)
      (λ ne. let len = length_push ls x in
      let in-old : m ≤ length ls = omega (arith, len) in
      subst WellSpelt (sym (line_kept ls x m lo in-old)) (g.spelled m lo in-old))
      (cases_eq m (length ls + 1));
}

-- the end of the file

unmarked_none : (n : ℕ) (ms : Marks) → unmarked_from n ms ≡ None → (k : ℕ) → k < length ms → get_or ms k false ≡ true
unmarked_none n [] h k lt = absurd (omega arith)
unmarked_none n (true ∷ ms) h zero lt = refl
unmarked_none n (true ∷ ms) h (suc k) lt = unmarked_none (n + 1) ms h k (omega arith)
unmarked_none n (false ∷ ms) h k lt = cc

all_named_lem : (o : Option ℕ) (u : Unit {0}) → all_named o ≡ Ok u → o ≡ None
all_named_lem None u h = refl
all_named_lem (Some n) u h = cc

end_tree : (ls : List Line) (ms : Marks) → Good ls ms → length ls ≤ 256 → (u : Unit {0}) → end_of ls ms ≡ Ok u → Tree ls
end_tree ls ms g le u h =
    let a = cleared (eqb (length ls) 0) _ _ u h in
    let apart = eqb-false (length ls) 0 a.0 in
    let part = take (length ls - 1) (drop 1 ms) in
    let b = bind_ok (all_named (unmarked_from 1 part)) _ u a.1 in
    let unmarked = all_named_lem (unmarked_from 1 part) b.0 b.1.0 in
    let c = passed (same_family (family_of (line_at ls (length ls))) family.Policy) (Ok tt) _ u b.1.1 in
    let d = length-drop 1 ms in
    let e = g.long in
    let long : length part ≡ length ls - 1 = length-take-le (length ls - 1) (drop 1 ms) (omega (arith, d, e)) in
    record {
      some = omega (arith, apart);
      few = le;
      above = g.sound;
      once = λ k lo hi.
          let on = unmarked_none 1 part unmarked (k - 1) (omega (arith, long)) in
          let p = get_or-take (length ls - 1) (drop 1 ms) (k - 1) false (omega arith) in
          let q = get_or-drop 1 ms (k - 1) false in
          let i : 1 + (k - 1) ≡ k = omega arith in
          let up : get_or ms k false ≡ true = ap (λ j. get_or ms j false) (sym i) ∙ sym q ∙ sym p ∙ on in
          g.counts k ∙ ap (λ t. cond t 1 0) up;
      last = c.0;
    }

-- one line

record Stepped (ls : List Line) (ms : Marks) (xs : List ℕ) (s : Line × Marks × List ℕ) : Type 0 where
  named : Named ls ms (references s.0) s.1
  spells : row (fields_for s.0) ++ 10 ∷ s.2 ≡ xs
  spelled : WellSpelt s.0

step_reads : (ls : List Line) (ms : Marks) (xs : List ℕ) (s : Line × Marks × List ℕ) → length ls < length ms → step_of ls ms xs ≡ Ok s → Stepped ls ms xs s
step_reads ls ms xs s lt h =
    let a = field_bind 0 (or_refuse (cut_of 10 xs) why.Shape) _ s h in
    let b = field_bind 0 (or_refuse (six_of (parts 32 a.0.0)) why.Shape) _ s a.1.1 in
    let c = bind_ok (line_of ls ms b.0) _ s b.1.1 in
    let e : (c.0.0, c.0.1, a.0.1) ≡ s = ok_same c.1.1 in
    let cut = cut_back 10 xs a.0 (or_ok (cut_of 10 xs) _ a.0 a.1.0) in
    let six = fields_back a.0.0 b.0 (or_ok (six_of (parts 32 a.0.0)) _ b.0 b.1.0) in
    let line = line_reads ls ms b.0 lt c.0 c.1.0 in
    subst (λ (t : Line × Marks × List ℕ). Stepped ls ms xs t) e (record { named = line.named; spells = ap (λ y. y ++ 10 ∷ a.0.1) (ap row line.spells ∙ six) ∙ cut; spelled = line.spelled })

rows-push : (ls : List Line) (x : Line) (xs : List ℕ) → rows (ls ++ x ∷ []) ++ xs ≡ rows ls ++ (row (fields_for x) ++ 10 ∷ xs)
rows-push [] x xs = append_assoc (row (fields_for x)) (10 ∷ []) xs
rows-push (y ∷ ls) x xs =
    append_assoc (row (fields_for y)) (10 ∷ rows (ls ++ x ∷ [])) xs ∙ ap (λ zs. row (fields_for y) ++ 10 ∷ zs) (rows-push ls x xs)
    ∙ sym (append_assoc (row (fields_for y)) (10 ∷ rows ls) (row (fields_for x) ++ 10 ∷ xs))

-- all lines

record Whole (ls : List Line) (xs : List ℕ) (out : List Line) : Type 0 where
  tree : Tree out
  spells : rows out ≡ rows ls ++ xs
  spelled : AllWellSpelt out

body_whole : (left : ℕ) (ls : List Line) (ms : Marks) (xs : List ℕ) (out : List Line) → left + length ls ≡ 256 → Good ls ms → body_of left ls ms xs ≡ Ok out → Whole ls xs out
body_whole left ls ms [] out n g h =
    let r = bind_ok (end_of ls ms) _ out h in
    subst (λ o. Whole ls [] o) (ok_same r.1.1) (record { tree = end_tree ls ms g (omega arith) r.0 r.1.0; spells = sym (append-nil (rows ls)); spelled = g.spelled })
body_whole zero ls ms (x ∷ xs) out n g h = cc
body_whole (suc left) ls ms (x ∷ xs) out n g h =
    let a = bind_ok (at_line (length ls + 1) (step_of ls ms (x ∷ xs))) _ out h in
    let s = a.0 in
    let long = g.long in
    let r = step_reads ls ms (x ∷ xs) s (omega (arith, long)) (line_ok (length ls + 1) (step_of ls ms (x ∷ xs)) s a.1.0) in
    let len = length_push ls s.0 in
    let w = body_whole left (ls ++ s.0 ∷ []) s.1 s.2 out (omega (arith, len)) (good_more ls ms s.1 s.0 g r.named r.spelled) a.1.1 in
    record { tree = w.tree; spells = w.spells ∙ rows-push ls s.0 s.2 ∙ ap (λ y. rows ls ++ y) r.spells; spelled = w.spelled }

-- no mark is set at the start
pub unmarked_start : (n k : ℕ) → get_or (replicate n false) k false ≡ false
unmarked_start zero k = refl
unmarked_start (suc n) zero = refl
unmarked_start (suc n) (suc k) = unmarked_start n k

start : Good [] no_marks
unfolding no_marks
start = record { counts = λ k. ap (λ t. cond t 1 0) (sym (unmarked_start 257 k)); long = refl; sound = λ n lo hi. absurd (omega arith); spelled = λ n lo hi. absurd (omega arith) }

header_back : (xs body : List ℕ) → header_of xs ≡ Some body → codes "kind a b c d e" ++ 10 ∷ body ≡ xs
header_back xs body h =
    let p = bind-some (cut_of 10 xs) _ body h in
    let q = held (bytes_eq p.0.0 (codes "kind a b c d e")) (Some p.0.1) body p.1.1 in
    (λ i. sym (same p.0.0 (codes "kind a b c d e") q.0) i ++ 10 ∷ sym (same_Some _ _ q.1) i) ∙ cut_back 10 xs p.0 p.1.0

after-header : (xs : List ℕ) (o : Option (List ℕ)) (ls : List Line) → header_of xs ≡ o → after_header o ≡ Ok ls → Spells xs ls
after-header xs None ls w h = cc
after-header xs (Some body) ls w h =
    let r = body_whole 256 [] no_marks body ls refl start h in
    record { file = ap (λ y. codes "kind a b c d e" ++ 10 ∷ y) r.spells ∙ header_back xs body w; tree = r.tree; fields = r.spelled }

-- an accepted file is the one spelling of its lines, and they are a tree
pub spells : (xs : List ℕ) (ls : List Line) → check_of xs ≡ Ok ls → Spells xs ls
spells xs ls h = after-header xs (header_of xs) ls refl h

pub one_spelling : (xs : List ℕ) (ls : List Line) → check_of xs ≡ Ok ls → spelt ls ≡ xs
one_spelling xs ls h = (spells xs ls h).file
