-- What the loop keeps: what was written for the lines above says what their parts say.
use Rattle.std.proofs.Common.{◌≡◌, ◌+◌, ◌-◌, ◌*◌, List, length}
use Rattle.values.specs.declared.value.Value.{Value}
use Rattle.conditions.specs.Places.{Grows}
use Rattle.compiling.specs.Written.{AllSay}
use Rattle.compiling.proofs.lines.compile_lines.Given as goal

abbrev pub invariant-loop-place : goal.invariant-loop-place
invariant-loop-place l = record {
  grows : Grows l.initial.places l.places (32 * l.place - 31);
  long : length l.written ≡ 257;
  said : (readings : List Value) → AllSay (l.place + 1) l.lines l.places readings l.algorithms l.written;
}
