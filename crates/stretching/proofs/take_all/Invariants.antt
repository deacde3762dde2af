-- The accounts from j on are taken off.
use Rattle.std.proofs.Common.{length}
use Rattle.stretching.proofs.Taking.{Taking}
use Rattle.stretching.proofs.take_all.Given as goal

abbrev pub invariant-loop-j : goal.invariant-loop-j
invariant-loop-j l = Taking l.fn.out l.out l.c l.at l.gaps (length l.gaps) l.j
