-- How a service is asked for duties, one after another.
use Rattle.std.specs.Prelude.{◌≡◌, Bool, true, false, List, [], ◌∷◌, length, drop}
use Rattle.policy.specs.declared.line.Force.{Force}
use Rattle.policy.specs.declared.line.Force.TheVariants.{Must, May}
use Rattle.trees.specs.declared.duty.Duty.{Duty}
use Rattle.services.specs.declared.service.Reply.{Reply}
use Rattle.services.specs.declared.service.Reply.TheVariants.{Done, NotReady}
use Rattle.services.specs.Meaning.{Meaning, Did}

abbrev pub must : Force → Bool
must Must = true
must May = false

abbrev pub is_must : Duty → Bool
is_must d = must d.force

-- a failed must ends the trying
abbrev pub ends : Duty → Reply → Bool
ends d Done = false
ends d NotReady = is_must d

-- the duties are asked of the service in order, each in the state that the one before it left, until a must fails;
-- the replies are those to the duties asked
pub data Asked {S : Type 0} (m : Meaning S) : S → List Duty → List Reply → S → Type 0 where
  -- all duties were asked
  all : {s : S} → Asked m s [] [] s
  -- a duty is asked, and the trying goes on
  next : {s t u : S} {d : Duty} {r : Reply} {ds : List Duty} {rs : List Reply} → Did m s d r t → ends d r ≡ false → Asked m t ds rs u → Asked m s (d ∷ ds) (r ∷ rs) u
  -- a must fails, and no duty after it is asked
  last : {s t : S} {d : Duty} {r : Reply} {ds : List Duty} → Did m s d r t → ends d r ≡ true → Asked m s (d ∷ ds) (r ∷ []) t

-- the duties that were carried out
abbrev pub carried : List Duty → List Reply → List Duty
carried ds [] = []
carried [] (r ∷ rs) = []
carried (d ∷ ds) (Done ∷ rs) = d ∷ carried ds rs
carried (d ∷ ds) (NotReady ∷ rs) = carried ds rs

-- those that were asked and not carried out
abbrev pub failed : List Duty → List Reply → List Duty
failed ds [] = []
failed [] (r ∷ rs) = []
failed (d ∷ ds) (Done ∷ rs) = failed ds rs
failed (d ∷ ds) (NotReady ∷ rs) = d ∷ failed ds rs

-- those that were not asked
abbrev pub skipped : List Duty → List Reply → List Duty
skipped ds rs = drop (length rs) ds
