-- The valve bank: what it is ready for, and what a duty does to the valves.
use Rattle.std.specs.Prelude.{◌≡◌, ℕ, ◌-◌, cond, ◌&&◌, List, [], ℤ, pos, negsuc, Some, None, Option, is_some, nat_le, nat_lt, replicate, slice_set}
use Rattle.values.specs.declared.value.Value.{Value}
use Rattle.values.specs.declared.value.Value.TheVariants.{Missing as missing, Error as error, Bool as boolean, Number as number, Text as text, Numbers as numbers, Texts as texts}
use Rattle.trees.specs.declared.duty.Duty.{Duty}
use Rattle.services.specs.Meaning.{Meaning}
use Rattle.services.specs.declared.valve_bank.Valve.{Valve}
use Rattle.services.specs.declared.valve_bank.ValveBank.{ValveBank}

-- 0 to 100
abbrev pub percentage : ℤ → Option ℕ
percentage (pos n) = cond (nat_le n 100) (Some n) None
percentage (negsuc n) = None

-- the position that a value stands for
abbrev pub position_of : Value → Option ℕ
position_of missing = None
position_of error = None
position_of (boolean b) = None
position_of (number z) = percentage z
position_of (text t) = None
position_of (numbers zs) = None
position_of (texts ts) = None

-- the valve of the action has its new position, and the other seven stay; action 8's is the first of the eight
-- (a bank is ready only for values that stand for a position)
abbrev pub Moves : ValveBank → Duty → ValveBank → Type 0
Moves b d c = (n : ℕ) → position_of d.argument ≡ Some n → c.valves ≡ slice_set b.valves (d.action - 8) (record { position = n })

-- ready for the actions from 8 to 15 with a position, while the count is below 4,294,967,295
abbrev pub bank_meaning : Meaning ValveBank
bank_meaning = record {
  ready = λ b action value. nat_le 8 action && nat_le action 15 && is_some (position_of value) && nat_lt b.count 4294967295;
  count = λ b. b.count;
  latest = λ b. b.latest;
  lent = λ b. [];
  becomes = Moves;
}

-- eight valves at position 0
abbrev pub all_shut : List Valve
all_shut = replicate 8 (record { position = 0 })
