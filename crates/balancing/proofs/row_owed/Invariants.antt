-- The flag and the tests of the pairs that are left are those of the whole row.
use Rattle.std.proofs.Common.{◌≡◌, ◌&&◌, length}
use Rattle.rules.specs.Book.{within_owed}
use Rattle.balancing.proofs.row_owed.Given as goal

abbrev pub invariant-loop-n : goal.invariant-loop-n
invariant-loop-n l = record {
  lengths : length l.n-iterator.a.rest.now ≡ length l.n-iterator.b.rest.now;
  left : l.good && within_owed l.n-iterator.a.rest.now l.n-iterator.b.rest.now ≡ within_owed l.net l.delivered;
}
