-- The flag and the tests that are left are those of the nets, and then those of the whole row.
use Rattle.std.proofs.Common.{◌≡◌, ◌&&◌, drop, nat_abs}
use Rattle.rules.specs.Book.{all, is_even}
use Rattle.balancing.specs.EvenScan.{row_even}
use Rattle.balancing.proofs.row_even.Given as goal

abbrev pub invariant-loop-n : goal.invariant-loop-n
invariant-loop-n l =
    l.good && all (λ n. is_even (nat_abs n)) (drop l.n-index l.net) ≡ all (λ n. is_even (nat_abs n)) l.net

abbrev pub invariant-loop-d : goal.invariant-loop-d
invariant-loop-d l = l.good && all is_even (drop l.d-index l.delivered) ≡ row_even l.net l.delivered
