-- What is summed and what is left are the whole sum, so nothing on the way is larger.
use Rattle.std.proofs.Common.{◌≡◌, ◌+◌, drop}
use Rattle.rules.specs.Measures.{sum}
use Rattle.book.proofs.total.Given as goal

abbrev pub invariant-loop-x : goal.invariant-loop-x
invariant-loop-x l = l.t + sum (drop l.x-index l.d) ≡ sum l.d
