-- The nine tests as they stand in the code.
use Rattle.columns.specs.Books.{shared_book}
use Rattle.host.proofs.Holding.{tested}
use Rattle.host.proofs.lengths_right.Goals as goal

pub returns : goal.returns
returns c s = tested (shared_book s c.args.columns)
