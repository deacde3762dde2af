-- All words are 0 where those from `at` on are.
use Rattle.std.proofs.Common.{◌≡◌, drop}
use Rattle.rules.specs.Book.{all, is_zero}
use Rattle.journal.proofs.reading.blank.Given as goal

abbrev pub invariant-loop-at : goal.invariant-loop-at
invariant-loop-at l = all is_zero (drop l.at l.words) ≡ all is_zero (drop l.fn.from l.fn.words)
