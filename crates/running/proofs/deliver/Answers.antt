use Rattle.columns.specs.Books.{lent_book}
use Rattle.running.proofs.deliver.Goals as goal

pub deliver-requires : goal.deliver-requires
deliver-requires c =
    let l = c.requires.lengths in
    (l.cells, l.lifts, record { rest = lent_book c.args.s c.args.columns.now; sound = c.requires.sound }, c.requires.room)

pub returns-clause-made : goal.returns-clause-made
returns-clause-made c = c.deliver.ensures (lent_book c.args.s c.args.columns.now) c.requires.sound
