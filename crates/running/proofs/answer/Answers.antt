-- Each instruction is answered as its call is, of the book that the state and the columns are.
use Rattle.columns.specs.Books.{lent_book}
use Rattle.running.proofs.answer.Goals as goal

pub returns-in-Close-clause-answered : goal.returns-in-Close-clause-answered
returns-in-Close-clause-answered c = rw c.in-Close.is (c.close.ensures c.args.out.now (lent_book c.args.s c.args.columns.now) c.requires.0.sound)

pub returns-in-Turn-clause-answered : goal.returns-in-Turn-clause-answered
returns-in-Turn-clause-answered c = rw c.in-Turn.is (c.turn.ensures c.args.out.now (lent_book c.args.s c.args.columns.now) c.requires.0.sound)
