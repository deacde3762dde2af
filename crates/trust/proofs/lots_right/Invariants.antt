-- The flag and the test of what is left are together the test of the whole.
use Rattle.std.proofs.Common.{◌≡◌, ◌&&◌, drop}
use Rattle.rules.specs.Measures.{most_lots}
use Rattle.rules.specs.Book.{all, within_size}
use Rattle.trust.proofs.lots_right.Given as goal

abbrev pub invariant-loop-x : goal.invariant-loop-x
invariant-loop-x l = l.good && all (within_size most_lots) (drop l.x-index l.lots) ≡ all (within_size most_lots) l.lots
