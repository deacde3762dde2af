use Rattle.columns.specs.Books.{lent_book}
use Rattle.running.proofs.deliver_kept.Goals as goal

pub deliver_kept-requires : goal.deliver_kept-requires
deliver_kept-requires c =
    let a = c.args in
    let r = c.requires.0 in
    let l = r.lengths in
    ((l.cells, l.lifts, record { rest = lent_book a.s a.columns.now; sound = r.sound }, c.requires.1), r.room, c.requires.2)

pub returns-clause-made : goal.returns-clause-made
returns-clause-made c = c.deliver_kept.ensures.turned (lent_book c.args.s c.args.columns.now) c.requires.0.sound
