-- The words are still as they came. The total covers what is counted and, of the runs from this one on, what the rest of it covers.
use Rattle.std.proofs.Common.{◌≡◌, ◌+◌, ◌*◌, ◌≤◌, drop, map}
use Rattle.rules.specs.Handover.{covered, stock, waiting}
use Rattle.runs.specs.Runs.{part_of, units_of_runs, units_of_words}
use Rattle.gathering.proofs.hand_on.Given as goal

abbrev pub invariant-loop-j : goal.invariant-loop-j
invariant-loop-j l =
    (l.runs ≡ l.fn.runs)
    × (l.count ≤ 700 * l.j)
    × (covered (units_of_words l.runs) l.total ≡ l.count + covered (units_of_runs (drop l.j (map part_of l.runs))) l.left)
    × (stock (units_of_words l.runs) l.total ≡ stock (units_of_runs (drop l.j (map part_of l.runs))) l.left)
    × (waiting (units_of_words l.runs) l.total ≡ waiting (units_of_runs (drop l.j (map part_of l.runs))) l.left)
