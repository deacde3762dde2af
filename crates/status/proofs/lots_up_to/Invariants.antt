-- What is summed, and what is left to sum of the words from one on.
use Rattle.std.proofs.Common.{◌≡◌, ◌+◌, ◌≤◌, suc, take}
use Rattle.rules.specs.Units.{sum_lots}
use Rattle.status.proofs.UpTo.{from}
use Rattle.status.proofs.lots_up_to.Given as goal

abbrev pub invariant-loop-run : goal.invariant-loop-run
invariant-loop-run l = record {
  left : l.left ≤ l.k;
  all : sum_lots (from l.runs 0) ≡ l.sum + sum_lots (from l.runs l.run-index);
  up_to : sum_lots (take (suc l.k) (from l.runs 0)) ≡ l.sum + sum_lots (take (suc l.left) (from l.runs l.run-index));
}
