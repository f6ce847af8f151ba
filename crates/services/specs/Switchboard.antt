-- The switchboard: what two services mean as one.
use Rattle.std.specs.Prelude.{◌≡◌, ◌+◌, ◌++◌, Bool, true, false, cond, nat_le}
use Rattle.trees.specs.declared.duty.Duty.{Duty}
use Rattle.services.specs.Meaning.{Meaning, Did}
use Rattle.services.specs.declared.service.Reply.TheVariants.{Done}
use Rattle.services.specs.declared.switchboard.Switchboard.{Switchboard}

-- a duty that is carried out by one of the two changes that one alone
abbrev pub Passes : {P Q : Type 0} → Meaning P → Meaning Q → Bool → Switchboard P Q → Duty → Switchboard P Q → Type 0
Passes p q true s d t = Did p s.first d Done t.first × (t.second ≡ s.second)
Passes p q false s d t = Did q s.second d Done t.second × (t.first ≡ s.first)

-- actions 0 to 7 are the first's, and the others the second's
abbrev pub board_meaning : {P Q : Type 0} → Meaning P → Meaning Q → Meaning (Switchboard P Q)
board_meaning p q = record {
  ready = λ s action value. cond (nat_le action 7) (p.ready s.first action value) (q.ready s.second action value);
  count = λ s. p.count s.first + q.count s.second;
  latest = λ s. s.latest;
  lent = λ s. p.lent s.first ++ q.lent s.second;
  becomes = λ s d t. Passes p q (nat_le d.action 7) s d t;
}
