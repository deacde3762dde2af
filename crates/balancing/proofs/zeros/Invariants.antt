-- The flag and the test of what is left are together the test of the whole.
use Rattle.std.proofs.Common.{◌≡◌, ◌&&◌, drop}
use Rattle.rules.specs.Book.{all, is_zero}
use Rattle.balancing.proofs.zeros.Given as goal

abbrev pub invariant-loop-x : goal.invariant-loop-x
invariant-loop-x g l =
    l.good && all (λ n. is_zero (g.N.Number.value n)) (drop l.x-index l.xs) ≡ all (λ n. is_zero (g.N.Number.value n)) l.xs
