-- A combining algorithm by tables: its running states have the numbers 0 to 4, and state 4 is left by no child.
use Rattle.std.specs.Prelude.{◌≡◌, ℕ, ◌<◌, List, [], ◌∷◌, ◌++◌, slice_index_or}
use Rattle.combining.specs.declared.decision.Decision.{Decision}
use Rattle.combining.specs.declared.decision.Decision.TheVariants.{Permit}
use Rattle.combining.specs.Table.{place}
use Rattle.conditions.specs.declared.table.Transitions.{Transitions}

-- the state after a first child
abbrev pub first_in : Transitions → Decision → ℕ
first_in t d = slice_index_or t.first (place d) 0

-- the state after one child more; state 4 has no row and stays
abbrev pub next_in : Transitions → ℕ → Decision → ℕ
next_in t s d = slice_index_or (slice_index_or t.next s []) (place d) 4

-- the decision of a state
abbrev pub decision_in : Transitions → ℕ → Decision
decision_in t s = slice_index_or t.decisions s Permit

-- the tables follow an algorithm: `stands` says which states stand for which children, and `decide` what these come to
pub record Follows (stands : ℕ → List Decision → Type 0) (decide : List Decision → Decision) (t : Transitions) : Type 0 where
  pub first_bound : (d : Decision) → first_in t d < 5
  pub first : (d : Decision) → stands (first_in t d) (d ∷ [])
  pub next_bound : (s : ℕ) (d : Decision) → next_in t s d < 5
  pub next : (s : ℕ) (d : Decision) (ds : List Decision) → s < 5 → stands s ds → stands (next_in t s d) (ds ++ d ∷ [])
  pub decision : (s : ℕ) (ds : List Decision) → s < 5 → stands s ds → decision_in t s ≡ decide ds
