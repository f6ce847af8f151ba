-- What the loop keeps: a count for each duty tried, and what became of the first of them.
use Rattle.std.proofs.Common.{◌≡◌, ◌+◌, drop}
use Rattle.enforcement.proofs.Trying.{SoFar}
use Rattle.enforcement.proofs.enforcing.try_duties.Given as goal

abbrev pub invariant-loop-tried : goal.invariant-loop-tried
invariant-loop-tried g l = record {
  counts : l.carried + l.failed ≡ l.tried;
  so_far : SoFar g.S.Service.meaning l.fn.service l.fn.duties l.service (drop l.tried l.duties) l.carried l.failed;
}
