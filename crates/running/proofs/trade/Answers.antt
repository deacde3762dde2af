use Rattle.columns.specs.Books.{lent_book}
use Rattle.running.proofs.trade.Goals as goal

pub trade-requires : goal.trade-requires
trade-requires c = (c.requires.lengths.cells.nets, record { rest = lent_book c.args.s c.args.columns.now; sound = c.requires.sound })

pub returns-clause-made : goal.returns-clause-made
returns-clause-made c out = c.trade.ensures out (lent_book c.args.s c.args.columns.now) c.requires.sound
