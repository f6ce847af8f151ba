-- What a service means, and what one call of it does.
use Rattle.std.specs.Prelude.{◌≡◌, ℕ, ◌+◌, Bool, true, false, List, Some, Option}
use Rattle.std.specs.Borrow.{GName}
use Rattle.values.specs.declared.value.Value.{Value}
use Rattle.trees.specs.declared.duty.Duty.{Duty}
use Rattle.services.specs.declared.service.Reply.{Reply}
use Rattle.services.specs.declared.service.Reply.TheVariants.{Done, NotReady}

pub record Meaning (S : Type 0) : Type 1 where
  -- whether it is ready for an action with a value
  pub ready : S → ℕ → Value → Bool
  -- how many duties it has carried out
  pub count : S → ℕ
  -- the latest of them
  pub latest : S → Option Duty
  -- the memory that is lent to it, each part by the name of its reference
  pub lent : S → List GName
  -- what a duty that is carried out makes of it
  pub becomes : S → Duty → S → Type 0

-- done where it is ready: the duty is counted and becomes the latest; not ready elsewhere, and the state stays
abbrev pub Replied : {S : Type 0} → Meaning S → S → Duty → Reply → S → Type 0
Replied m s d Done t = (m.ready s d.action d.argument ≡ true) × (m.count t ≡ m.count s + 1) × (m.latest t ≡ Some d) × m.becomes s d t
Replied m s d NotReady t = (m.ready s d.action d.argument ≡ false) × (t ≡ s)

-- one call: the reply with what it means, and the same memory stays lent
abbrev pub Did : {S : Type 0} → Meaning S → S → Duty → Reply → S → Type 0
Did m s d reply t = (m.lent t ≡ m.lent s) × Replied m s d reply t
