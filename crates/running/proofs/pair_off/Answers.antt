use mathlib.Core.Path.{sym}
use Rattle.columns.specs.Books.{lent_book}
use Rattle.running.proofs.pair_off.Goals as goal

pub pair_off-requires : goal.pair_off-requires
pair_off-requires c = (c.requires.lengths.ledger, record { rest = lent_book c.args.s c.args.columns.now; sound = c.requires.sound })

-- the ledger's columns are still those that were lent to it
pub returns-clause-made : goal.returns-clause-made
returns-clause-made c out =
    let h = c.pair_off.ensures.same in
    rw (
      c.columns-5-1.given.1 (sym h.issues),
      c.columns-4-1.given.1 (sym h.froms),
      c.columns-3-1.given.1 (sym h.tos),
      c.columns-2-1.given.1 (sym h.lots),
      c.columns-1.given.1 (sym h.days),
    )
    (c.pair_off.ensures.done out (lent_book c.args.s c.args.columns.now) c.requires.sound)
