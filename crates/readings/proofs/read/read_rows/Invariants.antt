use Rattle.std.proofs.Common.{◌≡◌, ◌+◌, ◌≤◌, length, vec_items, vec_len, vec_capacity}
use Rattle.spelling.specs.Cuts.{parts}
use Rattle.readings.specs.Table.{rows_of}
use Rattle.readings.specs.Read.{after}
use Rattle.readings.specs.Outcome.{rows_in}
use Rattle.readings.proofs.Rows.{Full}
use Rattle.readings.proofs.read.read_rows.Given as goal

abbrev pub invariant-loop-line : goal.invariant-loop-line
invariant-loop-line l =
    (l.rows + length l.rest ≤ length l.body)
    × (vec_len l.cells + length l.rest ≤ length l.body)
    × (vec_capacity l.cells ≡ vec_capacity l.initial.cells)
    × Full l.width l.rows (vec_items l.cells)
    × (after (rows_in l.width l.rows (vec_items l.cells)) (rows_of (l.rows + 1) l.width (parts 10 l.rest)) ≡ rows_of 1 l.width (parts 10 l.body))

abbrev pub decreases-loop-line : goal.decreases-loop-line
decreases-loop-line l = length l.rest
