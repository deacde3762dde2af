-- What is filled of the column is of twice as many words.
use Rattle.std.proofs.Common.{◌≡◌, ◌*◌, take}
use Rattle.snapshots.specs.Words.{longs_in}
use Rattle.restoring.proofs.take_charges.Given as goal

abbrev pub invariant-loop-i : goal.invariant-loop-i
invariant-loop-i l = take l.i l.column ≡ longs_in (take (2 * l.i) l.words)
