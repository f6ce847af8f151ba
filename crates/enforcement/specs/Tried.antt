-- The clause of the function that tries duties: the counts of a run, and whether a must failed.
use Rattle.std.specs.Prelude.{◌≡◌, List, length}
use Rattle.std.specs.List.{list_any}
use Rattle.trees.specs.declared.duty.Duty.{Duty}
use Rattle.services.specs.declared.service.Reply.{Reply}
use Rattle.services.specs.Meaning.{Meaning}
use Rattle.enforcement.specs.Asked.{Asked, carried, failed, skipped, is_must}
use Rattle.enforcement.specs.declared.tally.Tally.{Tally}

abbrev pub tally_of : List Duty → List Reply → Tally
tally_of ds rs = record { carried = length (carried ds rs); failed = length (failed ds rs); skipped = length (skipped ds rs); must_failed = list_any is_must (failed ds rs) }

abbrev pub Tried : {S : Type 0} → Meaning S → S → List Duty → Tally → S → Type 0
Tried m s ds tally t = (rs : List Reply) × Asked m s ds rs t × (tally ≡ tally_of ds rs)
