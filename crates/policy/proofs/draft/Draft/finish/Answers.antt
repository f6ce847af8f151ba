use Rattle.std.proofs.Common.{◌≡◌, ◌-◌, [], ◌∷◌, length, ℕ, ◌+◌, ◌<◌, true, false, cond, Some, None, Ok, not, take, drop, eqb, Bool, List, Result, vec_items, rules, Option, refl, ap, sym, ◌∙◌, arith}
use Rattle.std.proofs.lemmas.Bool.Decides.{nat_tests}
use denote.Enum.Bare.{sameb}
use Rattle.policy.specs.contracts.line.Family.{the_type}
use Rattle.std.specs.List.{position, position_from}
use Rattle.std.specs.Option.{option_map}
use Rattle.std.proofs.lemmas.Iterator.Adapters.{position_from-zero}
use Rattle.refusals.specs.Results.{bind_r}
use Rattle.refusals.specs.declared.cause.Cause.TheVariants as why
use Rattle.refusals.specs.declared.place.Rejection.{Rejection}
use Rattle.policy.specs.declared.line.Family.TheVariants as family
use Rattle.policy.specs.declared.line.Line.{Line}
use Rattle.policy.specs.Lines.{family_of, same_family, line_at}
use Rattle.policy.specs.Check.{Marks, unmarked_from, all_named, rejected, end_of}
use Rattle.policy.proofs.Families.{sameb-same_family}
use Rattle.policy.proofs.draft.Draft.finish.Goals as goal

-- the same search that counts from another number
counted : (n : ℕ) (ms : Marks) → unmarked_from (n + 1) ms ≡ option_map (λ i. i + 1) (position_from not n ms)
counted n [] = refl
counted n (true ∷ ms) = counted (n + 1) ms
counted n (false ∷ ms) = refl

unmarked_position : (ms : Marks) → unmarked_from 1 ms ≡ option_map (λ i. i + 1) (position not ms)
unmarked_position ms = counted 0 ms ∙ ap (option_map (λ i. i + 1)) (sym (position_from-zero not ms))

-- the end of the file, where there is a line
module _ (ls : List Line) (ms : Marks) (some : 0 < length ls) where
  left : Option ℕ → Result (Unit {0}) Rejection
  left o = bind_r (all_named (option_map (λ i. i + 1) o)) (λ _. cond (same_family (family_of (line_at ls (length ls))) family.Policy) (Ok tt) (rejected why.LastNotPolicy (length ls)))

  ends : (o : Option ℕ) → position not (take (length ls - 1) (drop 1 ms)) ≡ o → end_of ls ms ≡ left o
  unfolding left
  ends o e =
      let no : eqb (length ls) 0 ≡ false = grind (arith, nat_tests) in
      let u = unmarked_position (take (length ls - 1) (drop 1 ms)) ∙ ap (option_map (λ i. i + 1)) e in
      (λ i. cond (no i) (rejected why.LineCount 1) (bind_r (all_named (u i)) (λ _. cond (same_family (family_of (line_at ls (length ls))) family.Policy) (Ok tt) (rejected why.LastNotPolicy (length ls)))))

  unnamed_end : (i : ℕ) → position not (take (length ls - 1) (drop 1 ms)) ≡ Some i → end_of ls ms ≡ rejected why.NeverNamed (i + 1)
  unfolding left
  unnamed_end i e = ends (Some i) e

  named_end : (x : Line) (policy : Bool) → position not (take (length ls - 1) (drop 1 ms)) ≡ None → line_at ls (length ls) ≡ x → sameb the_type (family_of x) family.Policy ≡ policy
      → end_of ls ms ≡ cond policy (Ok tt) (rejected why.LastNotPolicy (length ls))
  unfolding left
  named_end x policy e last test =
      let f = ap (λ y. same_family (family_of y) family.Policy) last ∙ sym (sameb-same_family (family_of x) family.Policy) ∙ test in
      ends None e ∙ (λ i. cond (f i) (Ok tt) (rejected why.LastNotPolicy (length ls)))

pub returns-in-Some : goal.returns-in-Some
returns-in-Some c = let e = unnamed_end (vec_items c.args.self.now.lines) c.args.self.now.named (search rules) c.in-Some.above (search rules) in search rules

pub returns-then-eq : goal.returns-then-eq
returns-then-eq c = sym (named_end (vec_items c.args.self.now.lines) c.args.self.now.named (search rules) c.in_ok-last.last.now true (search rules) (search rules) (search rules))

pub returns-else-eq : goal.returns-else-eq
returns-else-eq c = let e = named_end (vec_items c.args.self.now.lines) c.args.self.now.named (search rules) c.in_ok-last.last.now false (search rules) (search rules) (search rules) in search rules
