use Rattle.std.proofs.Common.{◌≤◌, ◌-◌}
use Rattle.falling.specs.Places.{next_in}
use Rattle.falling.proofs.next_of.Given as goal

-- none is left before place k
abbrev pub invariant-loop-j : goal.invariant-loop-j
invariant-loop-j l = (l.k ≤ l.entries) × (l.k ≤ next_in l.entries l.issues l.accounts l.lots l.i l.a)

abbrev pub decreases-loop-j : goal.decreases-loop-j
decreases-loop-j l = l.entries - l.k
