-- The marks and what is left of the list are together what the list has.
use Rattle.std.proofs.Common.{◌≡◌, length}
use Rattle.drawing.proofs.Marks.{Passed}
use Rattle.drawing.proofs.none_twice.Given as goal

abbrev pub invariant-loop-j : goal.invariant-loop-j
invariant-loop-j l = (length l.marks ≡ length l.fn.marks) × Passed l.w (length l.fn.marks) l.draw l.j-index l.marks
