-- The flag and the tests of the pairs that are left are those of both columns.
use Rattle.std.proofs.Common.{◌≡◌, ◌&&◌, not, length}
use Rattle.balancing.specs.EvenScan.{pairs_even}
use Rattle.balancing.proofs.lots_even.Given as goal

abbrev pub invariant-loop-i : goal.invariant-loop-i
invariant-loop-i l = record {
  lengths : length l.i-iterator.a.rest.now ≡ length l.i-iterator.b.rest.now;
  left : not l.odd && pairs_even l.marks l.i-iterator.a.rest.now l.i-iterator.b.rest.now ≡ pairs_even l.marks l.issues l.lots;
}
