-- Whatever is short, the runs from this one on overlap with it as those from the start.
use Rattle.std.proofs.Common.{◌≡◌, List, map, drop}
use Rattle.rules.specs.Units.{AccountLots}
use Rattle.rules.specs.Fails.{overlaps}
use Rattle.runs.specs.Runs.{part_of}
use Rattle.units.proofs.next_run.Given as goal

abbrev pub invariant-loop-run : goal.invariant-loop-run
invariant-loop-run l =
    (ss : List AccountLots) → overlaps ss (drop l.fn.c.run (map part_of l.runs)) ≡ overlaps ss (drop l.run (map part_of l.runs))
