-- Responses that differ in omitted duties only.
use Rattle.std.specs.Prelude.{◌≡◌, ◌⊎◌, List, [], ◌∷◌}
use Rattle.std.specs.List.{AllZip}
use Rattle.combining.specs.Combined.{Response}

-- the first list is the second with none or some omitted, order kept
abbrev pub Omits : {A : Type 0} → List A → List A → Type 0
Omits [] ys = Unit {0}
Omits (x ∷ xs) [] = ⊥
Omits (x ∷ xs) (y ∷ ys) = ((x ≡ y) × Omits xs ys) ⊎ Omits (x ∷ xs) ys

-- the same decision, with none or some of the duties omitted
pub record Fewer {D : Type 0} (r s : Response D) : Type 0 where
  pub decision : r.decision ≡ s.decision
  pub duties : Omits r.duties s.duties

-- so child by child
abbrev pub EachFewer : {D : Type 0} → List (Response D) → List (Response D) → Type 0
EachFewer rs ss = AllZip Fewer rs ss
