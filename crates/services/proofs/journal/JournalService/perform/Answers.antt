-- The journal keeps the duty as its latest entry.
use Rattle.std.proofs.Common.{rules}
use Rattle.services.proofs.Latest.{latest-appended}
use Rattle.services.proofs.journal.JournalService.perform.Goals as goal

pub returns : goal.returns
returns c = search (rules, latest-appended)
