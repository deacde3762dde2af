-- The flag and the tests of the pairs that are left are those of both columns.
use Rattle.std.proofs.Common.{◌≡◌, ◌&&◌, length}
use Rattle.bookkeeping.specs.Columns.{sides_sound}
use Rattle.bookkeeping.proofs.sides_sound.Given as goal

abbrev pub invariant-loop-f : goal.invariant-loop-f
invariant-loop-f l = record {
  lengths : length l.f-iterator.a.rest.now ≡ length l.f-iterator.b.rest.now;
  left : l.good && sides_sound l.f-iterator.a.rest.now l.f-iterator.b.rest.now ≡ sides_sound l.froms l.tos;
}
