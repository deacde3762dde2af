-- What was added of all that the runs have, and what is left of it.
use Rattle.stretching.specs.Adding.{shares_in}
use Rattle.stretching.proofs.Feeding.{Feeding}
use Rattle.stretching.proofs.feed.Given as goal

abbrev pub invariant-loop-j : goal.invariant-loop-j
invariant-loop-j l = Feeding l.runs l.y l.round l.rounds (shares_in l.runs l.x l.y l.round l.rounds) l.fn.out l.out l.c l.at l.j l.k
