use mathlib.Core.Path.{sym}
use Rattle.columns.specs.Books.{lent_book}
use Rattle.running.proofs.cutoff.Goals as goal

pub cutoff-requires : goal.cutoff-requires
cutoff-requires c =
    let l = c.requires.lengths in
    (l.cells, l.lifts, l.ledger, record { rest = lent_book c.args.s c.args.columns.now; sound = c.requires.sound }, c.requires.room)

-- the ledger's columns are still those that were lent to it
pub returns-clause-made : goal.returns-clause-made
returns-clause-made c =
    let h = c.cutoff.ensures.same in
    rw (
      c.columns-5-1.given.1 (sym h.issues),
      c.columns-4-1.given.1 (sym h.froms),
      c.columns-3-1.given.1 (sym h.tos),
      c.columns-2-1.given.1 (sym h.lots),
      c.columns-1.given.1 (sym h.days),
    )
    (c.cutoff.ensures.done (lent_book c.args.s c.args.columns.now) c.requires.sound)
