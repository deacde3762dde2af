use Rattle.std.proofs.Common.{◌-◌}
use Rattle.seeking.proofs.Owing.{Asking}
use Rattle.seeking.proofs.owes.Given as goal

-- the entries from place k on are asked for what is left
abbrev pub invariant-loop-left : goal.invariant-loop-left
invariant-loop-left l = Asking l.entries l.i l.a l.issues l.froms l.lots l.x l.k l.left

abbrev pub decreases-loop-left : goal.decreases-loop-left
decreases-loop-left l = l.entries - l.k
