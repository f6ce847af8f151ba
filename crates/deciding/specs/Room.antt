-- Line numbers of duties, added in reserved memory.
use Rattle.std.specs.Prelude.{◌≡◌, ℕ, ◌+◌, ◌≤◌, List, ◌++◌, length, vec_items, vec_len, vec_capacity, Vec}
use Rattle.combining.specs.declared.decision.Decision.{Decision}
use Rattle.combining.specs.Combined.{Response}
use Rattle.trees.specs.declared.duty.Duty.{Duty}
use Rattle.deciding.specs.declared.known.Known.{Known}
use Rattle.deciding.specs.Known.{read_dues}

-- there is room for these duties
abbrev pub Room : {Z : Type 0} → Vec ℕ Z → List Duty → Type 0
Room v xs = vec_len v + length xs ≤ vec_capacity v

-- w is v with the line numbers of xs added, in the same memory
pub record Adds {Z : Type 0} (known : Known) (v w : Vec ℕ Z) (xs : List Duty) : Type 0 where
  pub items : read_dues known (vec_items w) ≡ read_dues known (vec_items v) ++ xs
  pub len : vec_len w ≡ vec_len v + length xs
  pub cap : vec_capacity w ≡ vec_capacity v

-- the decision of a response, and its duties added
pub record Responds {Z : Type 0} (known : Known) (v w : Vec ℕ Z) (d : Decision) (r : Response Duty) : Type 0 where
  pub decides : d ≡ r.decision
  pub adds : Adds known v w r.duties
