use Rattle.columns.specs.Books.{lent_book}
use Rattle.running.proofs.mark.Goals as goal

pub mark-requires : goal.mark-requires
mark-requires c =
    let l = c.requires.lengths in
    (l.cells.nets, l.ledger.issues, record { rest = lent_book c.args.s c.args.columns.now; sound = c.requires.sound })

pub returns-clause-made : goal.returns-clause-made
returns-clause-made c out = c.mark.ensures out (lent_book c.args.s c.args.columns.now) c.requires.sound
