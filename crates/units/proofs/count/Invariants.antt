-- What is counted and the overlaps that are left are those from the start; their number falls.
use Rattle.std.proofs.Common.{◌≡◌, ◌+◌, length}
use Rattle.units.specs.Cursor.{InRange, overlaps_in}
use Rattle.units.proofs.count.Given as goal

abbrev pub invariant-overlaps : goal.invariant-overlaps
invariant-overlaps l =
    InRange l.cursor × (l.number + length (overlaps_in l.runs l.missing l.cursor) ≡ length (overlaps_in l.runs l.missing l.fn.c))

abbrev pub decreases-overlaps : goal.decreases-overlaps
decreases-overlaps l = length (overlaps_in l.runs l.missing l.cursor)
