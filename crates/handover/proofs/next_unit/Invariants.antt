-- The units behind the place are those behind so many of the runs from this one on.
use Rattle.std.proofs.Common.{◌≡◌, drop, map}
use Rattle.runs.specs.Runs.{part_of, units_of_runs}
use Rattle.handover.proofs.next_unit.Given as goal

abbrev pub invariant-loop-run : goal.invariant-loop-run
invariant-loop-run l =
    drop l.fn.s.passed (units_of_runs (drop l.fn.s.run (map part_of l.runs))) ≡ drop l.passed (units_of_runs (drop l.run (map part_of l.runs)))
