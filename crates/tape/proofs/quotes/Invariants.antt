-- Storing the quotes from `at` on is storing them all.
use Rattle.std.proofs.Common.{◌≡◌, length}
use Rattle.std.proofs.lemmas.List.Edits.{sets}
use Rattle.tape.proofs.QuoteWords.{quotes_from}
use Rattle.tape.proofs.quotes.Given as goal

abbrev pub invariant-loop-at : goal.invariant-loop-at
invariant-loop-at l =
    (length l.quotes ≡ length l.fn.quotes)
    × (sets l.quotes l.at (quotes_from l.at l.tape) ≡ sets l.fn.quotes 0 (quotes_from 0 l.fn.tape))
