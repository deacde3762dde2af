-- Unit k of all is, from the round on, the one that is left; so many lots and runs are left to pass.
use Rattle.std.proofs.Common.{◌≡◌, ◌+◌, ◌-◌, ◌/◌, ◌≤◌, ◌<◌, length, drop, get_or}
use Rattle.rules.specs.Measures.{unit_lots}
use Rattle.rules.specs.Dealt.{rounds}
use Rattle.runs.specs.Runs.{runs_in}
use Rattle.inturn.specs.InTurn.{Narrowed, dealt_runs}
use Rattle.inturn.proofs.Dealing.{rest_of}
use Rattle.inturn.proofs.seat.Given as goal

abbrev pub invariant-loop-w : goal.invariant-loop-w
invariant-loop-w l =
    (l.w ≤ l.m) × (0 < l.w → l.r < get_or l.runs (l.w - 1) 0 / 6400000)
    × (drop l.k (dealt_runs l.runs (length l.runs) l.m) ≡ rest_of l.runs (length l.runs) l.m l.r l.w l.left) × (l.left ≤ l.k)
    × (l.k ≡ length (rounds unit_lots 0 l.r (runs_in l.runs l.m)) + l.left) × Narrowed l.runs l.m l.r l.w × (l.r ≤ 200)

abbrev pub decreases-loop-w : goal.decreases-loop-w
decreases-loop-w l = l.left + l.w
