-- The flag and the tests that are left are those of all charges; the sum so far and the charges that are left are in balance
-- as all are.
use Rattle.std.proofs.Common.{◌≡◌, ◌&&◌, ◌*◌, ◌^◌, drop}
use Rattle.rules.specs.Measures.{most_charge}
use Rattle.rules.specs.Book.{all, within_size}
use Rattle.balancing.proofs.RowLaws.{Summed}
use Rattle.bookkeeping.proofs.charges_sound.Given as goal

abbrev pub invariant-loop-c : goal.invariant-loop-c
invariant-loop-c l = record {
  size : l.good && all (within_size (most_charge * l.today)) (drop l.c-index l.charges) ≡ all (within_size (most_charge * l.today)) l.charges;
  sum : Summed (2 ^ 63) l.charges l.c-index l.sum;
}
