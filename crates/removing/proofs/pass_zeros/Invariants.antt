use Rattle.std.proofs.Common.{◌-◌}
use Rattle.seeking.specs.Places.{Passed}
use Rattle.removing.specs.Moves.{zero_at}
use Rattle.removing.proofs.pass_zeros.Given as goal

-- none stands before place k
abbrev pub invariant-loop-k : goal.invariant-loop-k
invariant-loop-k l = Passed (zero_at l.lots) l.end l.at l.k

abbrev pub decreases-loop-k : goal.decreases-loop-k
decreases-loop-k l = l.end - l.k
