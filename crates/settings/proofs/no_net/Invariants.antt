-- The flag and the test of what is left are together the test of the whole.
use Rattle.std.proofs.Common.{◌≡◌, ◌&&◌, drop, nat_abs}
use Rattle.rules.specs.Book.{all, is_zero}
use Rattle.settings.proofs.no_net.Given as goal

abbrev pub invariant-loop-n : goal.invariant-loop-n
invariant-loop-n l = l.good && all (λ n. is_zero (nat_abs n)) (drop l.n-index l.net) ≡ all (λ n. is_zero (nat_abs n)) l.net
