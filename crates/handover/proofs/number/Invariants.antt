-- What is counted, and the units from the run on, are all units.
use Rattle.std.proofs.Common.{◌≡◌, ◌+◌, ◌*◌, ◌≤◌, length, drop, map}
use Rattle.runs.specs.Runs.{part_of, units_of_runs, units_of_words}
use Rattle.handover.proofs.number.Given as goal

abbrev pub invariant-loop-run : goal.invariant-loop-run
invariant-loop-run l =
    (l.count ≤ 700 * l.run-index)
    × (l.count + length (units_of_runs (drop l.run-index (map part_of l.runs))) ≡ length (units_of_words l.runs))
