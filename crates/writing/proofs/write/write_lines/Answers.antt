use Rattle.writing.proofs.Puts.{both, written}
use Rattle.writing.proofs.write.write_lines.Goals as goal

pub returns-clause-written : goal.returns-clause-written
returns-clause-written c = written (both c.put-place.ensures c.put_lines.ensures)
