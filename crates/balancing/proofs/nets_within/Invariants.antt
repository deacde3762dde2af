-- The flag and the test of what is left are together the test of the whole.
use Rattle.std.proofs.Common.{◌≡◌, ◌&&◌, drop}
use Rattle.rules.specs.Measures.{most_lots}
use Rattle.rules.specs.Book.{all, within_size}
use Rattle.balancing.proofs.nets_within.Given as goal

abbrev pub invariant-loop-n : goal.invariant-loop-n
invariant-loop-n l = l.good && all (within_size most_lots) (drop l.n-index l.nets) ≡ all (within_size most_lots) l.nets
