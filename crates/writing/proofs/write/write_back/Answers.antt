use Rattle.std.proofs.Common.{rules}
use Rattle.policy.specs.Accepted.{lines_of}
use Rattle.writing.proofs.Rows.{for_file}
use Rattle.writing.proofs.write.write_back.Goals as goal

pub returns-clause-file : goal.returns-clause-file
returns-clause-file c = for_file (lines_of c.args.policy.now) c.args.out.now c.write_lines.new.out c.write_lines.result (search rules)
