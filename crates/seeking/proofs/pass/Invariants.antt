use Rattle.std.proofs.Common.{◌-◌}
use Rattle.seeking.specs.Places.{is_at, Passed}
use Rattle.seeking.proofs.pass.Given as goal

-- none stands before place k
abbrev pub invariant-loop-k : goal.invariant-loop-k
invariant-loop-k l = Passed (is_at l.issues l.accounts l.i l.a) l.entries l.at l.k

abbrev pub decreases-loop-k : goal.decreases-loop-k
decreases-loop-k l = l.entries - l.k
