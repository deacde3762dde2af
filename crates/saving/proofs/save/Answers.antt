-- The two parts, and the seal before them; the types of the columns give what is asked of a book's numbers.
use Rattle.std.proofs.Common.{◌≡◌, ap, ◌∙◌, drop, length}
use borrow.Author.Rules.{rules}
use lib.Seq.{sets, length-sets}
use Rattle.columns.specs.Books.{shared_book}
use Rattle.snapshots.specs.Words.{joined}
use Rattle.snapshots.specs.Snapshot.{seal, Typed}
use Rattle.saving.specs.Laying.{cell_columns, ledger_columns}
use Rattle.saving.proofs.Bytes.{bytes_below}
use Rattle.saving.proofs.Laid.{can_put, can_put_ledger, laid}
use Rattle.saving.proofs.save.Goals as goal

pub put_cells-requires : goal.put_cells-requires
put_cells-requires c = let k : length c.args.s.marks ≡ 16 = search rules in can_put _ _ _ c.requires k

pub put_ledger-requires : goal.put_ledger-requires
put_ledger-requires c =
    let t : Typed (shared_book c.args.s c.args.columns) =
    (record {
      lengths = c.requires.lengths;
      sixteen = search rules;
      day = search rules;
      turn = search rules;
      marks = bytes_below c.args.s.marks c.well_formed.0.1.1.1.1.1.1.0.0 c.well_formed.0.1.1.1.1.1.1.0.1.1;
      lifts = c.put_cells.ensures.words;
    }) in
    can_put_ledger _ _ _ c.requires t _
    (ap length c.put_cells.ensures.stored
    ∙ length-sets c.args.out.now 3 (joined (cell_columns c.args.s c.args.columns)))

pub returns : goal.returns
returns c =
    let t : Typed (shared_book c.args.s c.args.columns) =
    (record {
      lengths = c.requires.lengths;
      sixteen = search rules;
      day = search rules;
      turn = search rules;
      marks = bytes_below c.args.s.marks c.well_formed.0.1.1.1.1.1.1.0.0 c.well_formed.0.1.1.1.1.1.1.0.1.1;
      lifts = c.put_cells.ensures.words;
    }) in
    laid _ _ _ c.requires t _
    (c.put_seal.ensures
    ∙ ap (λ l. seal (drop 3 l)) c.put_ledger.ensures
    ∙ ap
    (λ l. seal (drop 3 (sets l 2487 (joined (ledger_columns c.args.columns)))))
    c.put_cells.ensures.stored)
