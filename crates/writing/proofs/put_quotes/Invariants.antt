-- Storing the words of the quotes from `at` on is storing them all.
use Rattle.std.proofs.Common.{◌≡◌, map, drop, length, ◌+◌}
use Rattle.std.proofs.lemmas.List.Edits.{sets}
use Rattle.rules.specs.Tape.{quote_word}
use Rattle.writing.proofs.put_quotes.Given as goal

abbrev pub invariant-loop-at : goal.invariant-loop-at
invariant-loop-at l =
    (length l.out ≡ length l.fn.out)
    × (sets l.out (l.at + 1) (map quote_word (drop l.at l.quotes)) ≡ sets l.fn.out 1 (map quote_word l.fn.quotes))
