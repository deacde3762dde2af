-- The numbers of the windows passed are none of them twice in the list.
use Rattle.std.proofs.Common.{ℕ, ◌*◌, ◌≤◌, ◌<◌}
use Rattle.reports.specs.Trust.{times}
use Rattle.drawing.proofs.draw_right.Given as goal

abbrev pub invariant-loop-k : goal.invariant-loop-k
invariant-loop-k l = (m : ℕ) → m < l.k * 65536 → times m l.draw ≤ 1
