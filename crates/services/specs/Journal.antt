-- The journal: entries in lent memory.
use Rattle.std.specs.Prelude.{◌≡◌, ℕ, Bool, ◌&&◌, List, [], ◌∷◌, take, None, Ok, Err, Result, nat_le, nat_lt, slice_set}
use Rattle.std.specs.Borrow.{MutBor}
use Rattle.std.specs.List.{last_or}
use Rattle.refusals.specs.declared.refused.Refused.{Refused}
use Rattle.trees.specs.declared.duty.Duty.{Duty}
use Rattle.services.specs.Enough.{enough_of}
use Rattle.services.specs.Meaning.{Meaning}
use Rattle.services.specs.declared.journal.Journal.{Journal}

-- the entries, in the order in which they were made
abbrev pub entries_in : Journal → List Duty
entries_in j = take j.count j.entries.now

-- the duty at the first free place, and the other places as they were
abbrev pub Appends : Journal → Duty → Journal → Type 0
Appends j d k = k.entries.now ≡ slice_set j.entries.now j.count d

-- whether a journal with n entries takes an action: one up to 7, while a place of the 64 is free
abbrev pub takes : ℕ → ℕ → Bool
takes n action = nat_le action 7 && nat_lt n 64

-- its count is that of its entries, and its latest duty the last of them
abbrev pub journal_meaning : Meaning Journal
journal_meaning = record {
  ready = λ j action value. takes j.count action;
  count = λ j. j.count;
  latest = λ j. last_or None (entries_in j);
  lent = λ j. j.entries.ghost_name ∷ [];
  becomes = Appends;
}

-- a journal without entries over memory that is large enough, or the refusal; the memory stays as it was
abbrev pub Lays : MutBor (List Duty) → Result Journal (Refused (MutBor (List Duty))) → Type 0
Lays m (Ok j) = (enough_of m.now ≡ Ok tt) × (j.entries.ghost_name ≡ m.ghost_name) × (j.entries.now ≡ m.now) × (j.count ≡ 0)
Lays m (Err e) = (enough_of m.now ≡ Err e.rejection) × (e.room.ghost_name ≡ m.ghost_name) × (e.room.now ≡ m.now)
