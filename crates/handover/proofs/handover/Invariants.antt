-- The total covers what is counted and, of the runs from this one on, what the rest of it covers.
use Rattle.std.proofs.Common.{◌≡◌, ◌+◌, ◌*◌, ◌≤◌, drop, map}
use Rattle.rules.specs.Handover.{covered, stock}
use Rattle.runs.specs.Runs.{part_of, units_of_runs, units_of_words}
use Rattle.handover.proofs.handover.Given as goal

abbrev pub invariant-loop-run : goal.invariant-loop-run
invariant-loop-run l =
    (l.count ≤ 700 * l.run-index)
    × (covered (units_of_words l.runs) l.d ≡ l.count + covered (units_of_runs (drop l.run-index (map part_of l.runs))) l.left)
    × (stock (units_of_words l.runs) l.d ≡ stock (units_of_runs (drop l.run-index (map part_of l.runs))) l.left)
