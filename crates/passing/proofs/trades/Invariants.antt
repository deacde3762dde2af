-- The trades up to here are passed.
use mathlib.Core.Path.{◌≡◌}
use Prim.Native.Nat.{◌*◌, ◌≤◌, ◌-◌}
use lib.ListN.{length}
use Rattle.answers.specs.Turns.{within_nets}
use Rattle.passing.specs.Going.{Passed}
use Rattle.passing.proofs.trades.Given as goal

abbrev pub invariant-loop-s : goal.invariant-loop-s
invariant-loop-s l =
    (l.at ≤ length l.words)
    × (l.end ≤ 72 * l.at)
    × (length l.nets ≡ length l.initial.nets)
    × (length l.text ≡ length l.initial.text)
    × Passed l.words l.last l.index (within_nets l.s l.initial.nets) (within_nets l.s l.nets) l.initial.text l.text l.from l.to l.at l.end

abbrev pub decreases-loop-s : goal.decreases-loop-s
decreases-loop-s l = length l.words - l.at
