-- The stretches of what waits, up to unit p, once what is pending is fed.
use Rattle.std.proofs.Common.{◌-◌, length}
use Rattle.stretching.proofs.Starting.{Waits}
use Rattle.stretching.proofs.feed_waiting.Given as goal

abbrev pub invariant-loop-p : goal.invariant-loop-p
invariant-loop-p l = Waits l.runs (length l.runs) l.m l.words l.fn.k l.count l.out l.at l.gaps l.p l.c l.q

abbrev pub decreases-loop-p : goal.decreases-loop-p
decreases-loop-p l = l.count - l.p
