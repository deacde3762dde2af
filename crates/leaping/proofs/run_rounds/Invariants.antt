-- What the runs in front have, and what is left of the total, are the total.
use Rattle.std.proofs.Common.{◌≡◌, ◌+◌, ◌%◌, take, map}
use Rattle.rules.specs.Units.{sum_lots}
use Rattle.runs.specs.Runs.{part_of}
use Rattle.leaping.proofs.run_rounds.Given as goal

abbrev pub invariant-loop-key : goal.invariant-loop-key
invariant-loop-key l = record {
  left : l.b + sum_lots (take l.key-index (map part_of l.runs)) ≡ l.d;
  full : l.x % l.size ≡ 0;
}
