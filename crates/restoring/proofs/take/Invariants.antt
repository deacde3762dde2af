-- What is filled of the column is of as many words.
use Rattle.std.proofs.Common.{◌≡◌, map, take}
use Rattle.restoring.proofs.take.Given as goal

abbrev pub invariant-loop-i : goal.invariant-loop-i
invariant-loop-i g l = take l.i l.column ≡ map (g.P.Part.number l.part) (take l.i l.words)
