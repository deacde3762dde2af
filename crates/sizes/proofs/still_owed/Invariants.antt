-- The issues so far have their sums.
use Rattle.std.proofs.Common.{◌≡◌, ℕ, ◌<◌, length, get_or}
use Rattle.desks.specs.Desk.{owed_of_issue}
use Rattle.sizes.proofs.still_owed.Given as goal

abbrev pub invariant-loop-i : goal.invariant-loop-i
invariant-loop-i l = record {
  whole : length l.owed ≡ 16;
  sums : (j : ℕ) → j < l.i → get_or l.owed j 0 ≡ owed_of_issue l.nets l.delivered j;
}
