-- The issues so far are ranked, each in its part of the table.
use Rattle.std.proofs.Common.{◌≡◌, ℕ, ◌<◌, length}
use Rattle.ranking.specs.Orders.{RankedIn}
use Rattle.ranking.proofs.rank_all.Given as goal

abbrev pub invariant-loop-i : goal.invariant-loop-i
invariant-loop-i l = record {
  table : length l.runs ≡ 2048;
  numbers : length l.counts ≡ 16;
  ranked : (j : ℕ) → j < l.i → RankedIn l.size l.nets l.runs l.counts j;
}
