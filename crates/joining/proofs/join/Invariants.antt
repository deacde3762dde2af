-- What the runs from here on join is what all of them join.
use Rattle.std.proofs.Common.{◌≡◌, ℕ, ◌+◌, ◌<◌, ◌≤◌, length, get_or, drop, map}
use Rattle.runs.specs.Runs.{part_of}
use Rattle.joining.specs.Runs.{joined_runs}
use Rattle.joining.proofs.join.Given as goal

abbrev pub invariant-loop-key : goal.invariant-loop-key
invariant-loop-key l = record {
  less : l.b ≤ l.e;
  whole : length l.inventories ≡ 256;
  small : (c : ℕ) → get_or l.inventories c 0 + l.e < 4294967296;
  joins : joined_runs l.settles l.size l.i (map part_of (drop l.key-index l.runs)) l.b l.e l.inventories
      ≡ joined_runs l.settles l.size l.i (map part_of l.runs) l.d (l.d + l.x) l.fn.inventories;
}
