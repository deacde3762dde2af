-- The first i dues are written: the dues of the first i nets.
use Rattle.std.proofs.Common.{◌≡◌, length, map, take}
use Rattle.rules.specs.Measures.{due_of}
use Rattle.book.proofs.dues_of.Given as goal

abbrev pub invariant-loop-i : goal.invariant-loop-i
invariant-loop-i l = (length l.dues ≡ length l.fn.dues) × (take l.i l.dues ≡ map due_of (take l.i l.net))
