-- The columns are taken, and then scanned.
use Rattle.std.proofs.Common.{◌∙◌, ap}
use Rattle.rules.specs.Book.{sound}
use Rattle.columns.specs.Books.{shared_book, lent_book}
use Rattle.opening.proofs.Reading.{taken_book, taken_lengths, same_lengths}
use Rattle.opening.proofs.sound_in.Goals as goal

pub sound_columns-requires : goal.sound_columns-requires
sound_columns-requires c =
    same_lengths (shared_book c.args.s c.shared.result) (lent_book c.args.s c.take_columns.new.columns) (c.shared.ensures c.args.s)
    (taken_lengths c.args.words.now _ _ _ _ _ _ _ _ _ c.requires.0 c.take_columns.ensures.taken.cells c.take_columns.ensures.taken.ledger)

pub returns : goal.returns
returns c =
    c.sound_columns.ensures
    ∙ ap sound (c.shared.ensures c.args.s ∙ taken_book c.args.words.now c.args.s _ _ _ _ _ _ _ _ _ c.take_columns.ensures.taken.cells c.take_columns.ensures.taken.ledger)
