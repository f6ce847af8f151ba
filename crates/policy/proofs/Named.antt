-- What the references of a line do to the marks.
use Rattle.std.proofs.lemmas.Option.{same_Some}
use Rattle.std.proofs.Common.{◌≡◌, ℕ, ◌+◌, ◌<◌, ◌≤◌, Bool, true, false, cond, ◌&&◌, eqb, ltb, leb, List, [], ◌∷◌, ◌++◌, length, get_or, set, ℤ, pos, negsuc, Some, None, Ok, Err, codes, decimal, Option, Result, sym, refl, ap, ◌∙◌, subst, ⊎_elim, arith, length-set, get_or-set_other, get_or-set_same}
use Rattle.std.proofs.lemmas.Bool.{cases_eq}
use Rattle.std.proofs.lemmas.Bool.Decides.{nat_tests}
use Rattle.std.specs.Fmt.{signed_decimal}
use Rattle.std.specs.Str.{bytes_eq}
use Rattle.refusals.specs.Results.{or_refuse}
use Rattle.refusals.specs.declared.cause.Cause.{Cause}
use Rattle.refusals.specs.declared.cause.Cause.TheVariants as why
use Rattle.spelling.specs.Numbers.{line_number_of}
use Rattle.spelling.proofs.Back.{number_back}
use Rattle.spelling.proofs.Inversions.{same, held}
use Rattle.policy.specs.declared.line.Line.{Line}
use Rattle.policy.specs.declared.line.Family.{Family}
use Rattle.policy.specs.Lines.{family_of, same_family, line_at, Reference, names, may_name}
use Rattle.policy.specs.Check.{Marks, above, refer_of, may_refer_of, some}
use Rattle.policy.specs.Spelt.{optional}
use Rattle.policy.specs.Tree.{is_sound, all_sound, times}
use Rattle.refusals.proofs.Inversions.{bind_ok, ok_same, or_ok, passed, cleared}

-- 1 where line k is marked
abbrev pub mark : Marks → ℕ → ℕ
mark ms k = cond (get_or ms k false) 1 0

-- the references rs, made by the line below ls, turned the marks ms into ns
pub record Named (ls : List Line) (ms : Marks) (rs : List Reference) (ns : Marks) : Type 0 where
  pub counts : (k : ℕ) → times k rs + mark ms k ≡ mark ns k
  pub sound : all_sound ls (length ls + 1) rs ≡ true
  pub long : length ns ≡ length ms

pub none : (ls : List Line) (ms : Marks) → Named ls ms [] ms
none ls ms = record { counts = λ k. omega arith; sound = refl; long = refl }

times-both : (k : ℕ) (rs ss : List Reference) → times k (rs ++ ss) ≡ times k rs + times k ss
times-both k [] ss = omega arith
times-both k (r ∷ rs) ss = let e = times-both k rs ss in omega (arith, e)

sound_both : (ls : List Line) (n : ℕ) (rs ss : List Reference) → all_sound ls n rs ≡ true → all_sound ls n ss ≡ true → all_sound ls n (rs ++ ss) ≡ true
sound_both ls n [] ss h g = g
sound_both ls n (r ∷ rs) ss h g = step (is_sound ls n r) (all_sound ls n rs) h (sound_both ls n rs ss) where
  step : (t u : Bool) → t && u ≡ true → (u ≡ true → all_sound ls n ss ≡ true → all_sound ls n (rs ++ ss) ≡ true) → t && all_sound ls n (rs ++ ss) ≡ true
  step true u e f = f e g
  step false u e f = e

pub both : {ls : List Line} {ms ns os : Marks} {rs ss : List Reference} → Named ls ms rs ns → Named ls ns ss os → Named ls ms (rs ++ ss) os
both {ls = ls} {rs = rs} {ss = ss} p q = record {
  counts = λ k. omega (arith, times-both k rs ss, p.counts k, q.counts k);
  sound = sound_both ls (length ls + 1) rs ss p.sound q.sound;
  long = q.long ∙ p.long;
}

pub flagged : (ms : Marks) (j k : ℕ) → j < length ms → get_or ms j false ≡ false → cond (eqb j k) 1 0 + mark ms k ≡ mark (set ms j true) k
flagged ms j k lt off = ⊎_elim
    (λ e. let a = get_or-set_same ms j true false lt in
    let b : get_or (set ms j true) k false ≡ true = ap (λ i. get_or (set ms j true) i false) (sym e) ∙ a in
    let d : get_or ms k false ≡ false = ap (λ i. get_or ms i false) (sym e) ∙ off in
    grind (arith, nat_tests))
    (λ ne. let a = get_or-set_other ms j k true false (λ q. ne (sym q)) in grind (arith, nat_tests))
    (cases_eq j k)

above-ok : (n : ℕ) (z : ℤ) (k : ℕ) → above n z ≡ Some k → (z ≡ pos k) × (0 < k) × (k ≤ n)
above-ok n (pos j) k h =
    let p = held (leb 1 j && leb j n) (Some j) k h in
    let e = same_Some _ _ p.1 in
    let lo : 1 ≤ j = grind (arith, nat_tests) in
    let hi : j ≤ n = grind (arith, nat_tests) in
    (ap pos e, omega (arith, e), omega (arith, e))
above-ok n (negsuc j) k h = let w : ◌≡◌ {A = ℕ} 0 1 = cc in absurd (omega arith)

-- a line was named: its number is spelled so, it stands above, has the family and was not yet named
pub record Refers (want : Family) (ls : List Line) (ms : Marks) (xs : List ℕ) (p : ℕ × Marks) : Type 0 where
  pub spells : decimal p.0 ≡ xs
  pub named : Named ls ms (names want p.0) p.1

pub refers : (want : Family) (ls : List Line) (ms : Marks) (xs : List ℕ) (p : ℕ × Marks) → length ls < length ms → refer_of want ls ms xs ≡ Ok p → Refers want ls ms xs p
refers want ls ms xs p lt h =
    let a = bind_ok (or_refuse (line_number_of xs) why.Misspelt) _ p h in
    let b = bind_ok (or_refuse (above (length ls) a.0) why.NotAbove) _ p a.1.1 in
    let k = b.0 in
    let c = passed (same_family (family_of (line_at ls k)) want) _ why.WrongFamily p b.1.1 in
    let d = cleared (get_or ms k false) _ why.NamedTwice p c.1 in
    let e : (k, set ms k true) ≡ p = ok_same d.1 in
    let n = above-ok (length ls) a.0 k (or_ok (above (length ls) a.0) _ k b.1.0) in
    let s = number_back xs a.0 (or_ok (line_number_of xs) _ a.0 a.1.0) in
    subst (λ (q : ℕ × Marks). Refers want ls ms xs q) e (record {
      spells = ap signed_decimal (sym n.0) ∙ s;
      named = record {
        counts = λ j. let f = flagged ms k j (omega (arith, n.2)) d.0 in omega (arith, f);
        sound = let lo : ltb 0 k ≡ true = grind (arith, nat_tests) in let hi : ltb k (length ls + 1) ≡ true = grind (arith, nat_tests) in (λ i. (lo i && (hi i && c.0 i)) && true);
        long = length-set ms k true;
      };
    })

pub record MayRefer (want : Family) (ls : List Line) (ms : Marks) (xs : List ℕ) (p : Option ℕ × Marks) : Type 0 where
  pub spells : optional p.0 ≡ xs
  pub named : Named ls ms (may_name want p.0) p.1

some-ok : (r : Result (ℕ × Marks) Cause) (p : Option ℕ × Marks) → some r ≡ Ok p → (q : ℕ × Marks) × ((r ≡ Ok q) × ((Some q.0, q.1) ≡ p))
some-ok (Ok q) p h = (q, (refl, ok_same h))
some-ok (Err e) p h = cc

pub may_refer : (want : Family) (ls : List Line) (ms : Marks) (xs : List ℕ) (p : Option ℕ × Marks) → length ls < length ms → may_refer_of want ls ms xs ≡ Ok p → MayRefer want ls ms xs p
may_refer want ls ms xs p lt h = at (bytes_eq xs (codes "-")) refl h where
  at : (t : Bool) → bytes_eq xs (codes "-") ≡ t → cond t (Ok (None, ms)) (some (refer_of want ls ms xs)) ≡ Ok p → MayRefer want ls ms xs p
  at true t g =
      let e : (None, ms) ≡ p = ok_same g in
      subst (λ (q : Option ℕ × Marks). MayRefer want ls ms xs q) e (record { spells = sym (same xs (codes "-") t); named = none ls ms })
  at false t g =
      let s = some-ok (refer_of want ls ms xs) p g in
      let r = refers want ls ms xs s.0 lt s.1.0 in
      subst (λ (q : Option ℕ × Marks). MayRefer want ls ms xs q) s.1.1 (record { spells = r.spells; named = r.named })
