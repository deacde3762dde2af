-- The words put out are the units from k on, in the order as lifted.
use Rattle.std.proofs.Common.{◌≡◌, ◌-◌, ◌≤◌, length, map, take, drop}
use Rattle.runs.specs.Runs.{part_of}
use Rattle.dealing.specs.Dealing.{lifted_runs}
use Rattle.dealing.proofs.window.Given as goal

abbrev pub invariant-loop-done : goal.invariant-loop-done
invariant-loop-done l =
    (length l.out ≡ length l.fn.out) × (l.done ≤ length l.fn.out)
    × (map part_of (take l.done l.out) ≡ take l.done (drop l.k (lifted_runs l.runs (length l.runs) l.m l.words)))

abbrev pub decreases-loop-done : goal.decreases-loop-done
decreases-loop-done l = length l.fn.out - l.done
