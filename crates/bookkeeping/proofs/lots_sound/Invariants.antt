-- The flag and the test of what is left are together the test of the whole.
use Rattle.std.proofs.Common.{◌≡◌, ◌&&◌, drop}
use Rattle.rules.specs.Book.{all}
use Rattle.bookkeeping.specs.Columns.{lots_sound}
use Rattle.bookkeeping.proofs.lots_sound.Given as goal

abbrev pub invariant-loop-x : goal.invariant-loop-x
invariant-loop-x l = l.good && all lots_sound (drop l.x-index l.lots) ≡ all lots_sound l.lots
