-- All quotes fit where those from the index on do.
use Rattle.std.proofs.Common.{◌≡◌, drop}
use Rattle.rules.specs.Book.{all}
use Rattle.rules.specs.Records.{quote_bits}
use Rattle.rules.specs.Tape.{fits}
use Rattle.writing.proofs.quotes_fit.Given as goal

abbrev pub invariant-loop-quote : goal.invariant-loop-quote
invariant-loop-quote l = all (fits quote_bits) (drop l.quote-index l.quotes) ≡ all (fits quote_bits) l.fn.quotes
