-- The answer to a policy file.
use Rattle.std.specs.Prelude.{◌≡◌, ℕ, List, Ok, Err, vec_items, vec_capacity, Result}
use Rattle.refusals.specs.declared.refused.Refused.{Refused}
use Rattle.policy.specs.declared.accepted.Policy.{Policy}
use Rattle.policy.specs.declared.accepted.Room.{Room}
use Rattle.policy.specs.declared.line.Line.{Line}
use Rattle.policy.specs.Check.{check_of}
use Rattle.policy.specs.WellSpelt.{Spells}

abbrev pub lines_of : Policy → List Line
lines_of p = vec_items p.lines

-- how many lines the memory has places for
abbrev pub capacity_of : Policy → ℕ
capacity_of p = vec_capacity p.lines

abbrev pub room_capacity : Room → ℕ
room_capacity r = vec_capacity r.lines

-- an accepted file gives its lines, a refused one its fault; the memory keeps its places
abbrev pub Checked : List ℕ → ℕ → Result Policy (Refused Room) → Type 0
Checked file places (Ok p) = (check_of file ≡ Ok (lines_of p)) × (capacity_of p ≡ places)
Checked file places (Err e) = (check_of file ≡ Err e.rejection) × (room_capacity e.room ≡ places)

-- a file is accepted exactly where it spells a tree of lines, and then as these lines
abbrev pub AcceptsTrees : List ℕ → Result Policy (Refused Room) → Type 0
AcceptsTrees file (Ok p) = Spells file (lines_of p)
AcceptsTrees file (Err e) = (ls : List Line) → Spells file ls → ⊥
