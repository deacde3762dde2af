-- The flag and the test of what is left are together the test of the whole.
use Rattle.std.proofs.Common.{◌≡◌, ◌&&◌, drop}
use Rattle.rules.specs.Book.{all}
use Rattle.checksums.specs.Sums.{below}
use Rattle.restoring.proofs.all_below.Given as goal

abbrev pub invariant-loop-w : goal.invariant-loop-w
invariant-loop-w l = l.good && all (below l.most) (drop l.w-index l.words) ≡ all (below l.most) l.words
