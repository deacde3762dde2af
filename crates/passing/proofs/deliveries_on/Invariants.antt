-- The deliveries up to here are passed, and what is kept is right.
use mathlib.Core.Path.{◌≡◌}
use Prim.Native.Nat.{◌*◌, ◌≤◌, ◌-◌}
use lib.ListN.{length}
use Rattle.answers.specs.Turns.{within_cells}
use Rattle.delivery.specs.Deliver.{KeepsEach}
use Rattle.passing.specs.Going.{Passed}
use Rattle.passing.proofs.deliveries_on.Given as goal

abbrev pub invariant-loop-s : goal.invariant-loop-s
invariant-loop-s l =
    let i = l.initial in
    (l.at ≤ length l.words)
    × (l.end ≤ 72 * l.at)
    × (length l.delivered ≡ length i.delivered)
    × (length l.lifts ≡ length i.lifts)
    × (length l.text ≡ length i.text)
    × KeepsEach l.nets l.delivered l.lifts l.kept
    × Passed l.words l.last l.index (within_cells l.s l.nets i.delivered i.lifts) (within_cells l.s l.nets l.delivered l.lifts) i.text l.text l.from l.to l.at l.end

abbrev pub decreases-loop-s : goal.decreases-loop-s
decreases-loop-s l = length l.words - l.at
