-- Unit k of all is, from run j on, the one that is left.
use Rattle.std.proofs.Common.{◌≡◌, ◌+◌, length}
use Rattle.runs.specs.Runs.{units_in}
use Rattle.lifted.proofs.find.Given as goal

abbrev pub invariant-loop-j : goal.invariant-loop-j
invariant-loop-j l = l.k ≡ length (units_in l.runs l.j) + l.left
