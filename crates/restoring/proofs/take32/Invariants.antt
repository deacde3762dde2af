-- What is filled of the column are as many words.
use Rattle.std.proofs.Common.{◌≡◌, take}
use Rattle.restoring.proofs.take32.Given as goal

abbrev pub invariant-loop-i : goal.invariant-loop-i
invariant-loop-i l = take l.i l.column ≡ take l.i l.words
