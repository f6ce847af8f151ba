-- What the loop keeps: the lines from the last one down have given their algorithms on.
use Rattle.std.proofs.Common.{◌≡◌, ℕ, ◌<◌, ◌≤◌, length}
use Rattle.compiling.specs.Handed.{Given}
use Rattle.compiling.proofs.algorithms.algorithms.Given as goal

abbrev pub invariant-loop-place : goal.invariant-loop-place
invariant-loop-place l = record {
  long : length l.algorithms ≡ 257;
  given : (n : ℕ) → l.place < n → n ≤ length l.lines → Given l.algorithms l.lines n;
}
