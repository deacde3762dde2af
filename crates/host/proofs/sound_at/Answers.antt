-- The phase's number and the lengths are tested first; where they are right, the scan tells.
use Rattle.std.proofs.Common.{◌∙◌, sym}
use Rattle.columns.specs.Books.{shared_book}
use Rattle.host.proofs.Holding.{lengths_right_lem, no_phase, wrong_lengths, scanned}
use Rattle.host.proofs.sound_at.Goals as goal

pub returns-then-phase-gt2 : goal.returns-then-phase-gt2
returns-then-phase-gt2 c = no_phase c.args.phase (shared_book c.args.s c.args.columns) c.if-phase-gt2.true

pub returns-then-not-lengths_right : goal.returns-then-not-lengths_right
returns-then-not-lengths_right c =
    wrong_lengths c.args.phase (shared_book c.args.s c.args.columns) (sym (c.lengths_right.ensures c.args.s) ∙ c.if-not-lengths_right.true)

pub sound_columns-requires : goal.sound_columns-requires
sound_columns-requires c =
    lengths_right_lem (shared_book c.args.s c.args.columns) (sym (c.lengths_right.ensures c.args.s) ∙ c.if-not-lengths_right.false)

pub returns : goal.returns
returns c =
    scanned c.args.phase (shared_book c.args.s c.args.columns) c.sound_columns.result c.if-phase-gt2.false
    (sym (c.lengths_right.ensures c.args.s) ∙ c.if-not-lengths_right.false) c.sound_columns.ensures
