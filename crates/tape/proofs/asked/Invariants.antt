-- What all the words give is what those from `at` on give.
use Rattle.std.proofs.Common.{◌≡◌, drop, ◌-◌}
use Rattle.rules.specs.Tape.{words_wrong}
use Rattle.tape.proofs.asked.Given as goal

abbrev pub invariant-loop-at : goal.invariant-loop-at
invariant-loop-at l = words_wrong l.k (l.count - l.at) (drop l.at l.tape) ≡ words_wrong l.fn.k (l.fn.count - 1) (drop 1 l.fn.tape)
