-- A gate's conditions conform to the book that it shows.
use Rattle.std.proofs.Common.{◌≡◌, Bool, true, false, Some, None, Option, refl, sym, ap, ◌∙◌, subst}
use Rattle.std.proofs.lemmas.Bool.{false≢true}
use Rattle.trees.specs.Policies.{respond}
use Rattle.trees.specs.Parts.{policy_of}
use Rattle.compiling.specs.Compiled.{Names, readings_by}
use Rattle.gate.specs.declared.gate.Gate.{Gate}
use Rattle.gate.specs.Book.{Book, lines_in, accepted_lines}
use Rattle.gate.specs.Shown.{Shows, conditions_of, gate_lines, only_if}
use Rattle.runs.specs.Pages.{Conforms}

-- nothing is both
pub no : {A : Type 0} → false ≡ true → A
no e = absurd (false≢true e)

abbrev is_some_value : {A : Type 0} → Option A → Bool
is_some_value (Some x) = true
is_some_value None = false

abbrev value_or : {A : Type 0} → A → Option A → A
value_or x (Some y) = y
value_or x None = x

only_if_some : {A : Type 0} (b : Bool) (x y : A) → only_if b x ≡ Some y → (b ≡ true) × (x ≡ y)
only_if_some true x y e = (refl, ap (value_or x) e)
only_if_some false x y e = no (ap is_some_value e)

pub conforming : (g : Gate) (b : Book) → Shows g b → Conforms g b
conforming g b shows file e k =
    let p = only_if_some _ _ file (sym (ap (λ (x : Book). x.policy) shows.1) ∙ e) in
    let ls : gate_lines g ≡ lines_in file = sym (ap lines_in (sym p.1) ∙ ap accepted_lines (g.file p.0)) in
    subst (λ ls. Names (conditions_of g) (readings_by k ls) (respond k (policy_of ls)).decision) ls (g.agrees p.0 k)
