-- So many rounds more have room in every cell, and in the units of the issues so far.
use Rattle.std.proofs.Common.{ℕ, ◌<◌, ◌≤◌}
use Rattle.rules.specs.Units.{units}
use Rattle.rules.specs.Book.{delivered_total, dues_of}
use Rattle.simulation.specs.Repeated.{AgainFor, OwedFor}
use Rattle.leaps.proofs.leap_rounds.Given as goal

abbrev pub invariant-loop-i : goal.invariant-loop-i
invariant-loop-i l = record {
  most : l.k ≤ 20000000;
  owed : OwedFor l.nets l.after l.xs l.k;
  units : (b : ℕ) → b < l.i → AgainFor (units l.size (dues_of l.nets b)) (delivered_total l.before b) (delivered_total l.xs b) l.k;
}
