-- The used part of each column is lent to the test of that column.
use Rattle.bookkeeping.proofs.LedgerLaws.{columns_sound}
use Rattle.bookkeeping.proofs.entries_sound.Goals as goal

pub returns : goal.returns
returns c =
    columns_sound c.args.s.day c.args.s.entries c.args.ledger.issues.now c.args.ledger.froms.now c.args.ledger.tos.now c.args.ledger.lots.now c.args.ledger.days.now
    _ _ _ _ c.requires.0 c.requires.1 c.issues_sound-i.ensures c.sides_sound-a.ensures c.lots_sound-x.ensures c.days_sound-d.ensures
