-- The parts together are the seventeen conditions; lifts and marks are looked at where all else is sound.
use Rattle.std.proofs.Common.{sym, ◌∙◌, arith}
use Rattle.columns.specs.Books.{shared_book}
use Rattle.soundness.proofs.ScanLaws.{others_as, others_no, others_yes, nets_yes, count_yes}
use Rattle.balancing.proofs.EvenLaws.{lots_entries}
use Rattle.soundness.proofs.scan.sound_columns.Goals as goal

pub returns-then-not-cells-taken : goal.returns-then-not-cells-taken
returns-then-not-cells-taken c =
    let b = shared_book c.args.s c.args.columns in
    let told = others_as b _ _ _ _ c.nets_sound-cells.ensures c.delivered_sound-taken.ensures (rw c.ledger_of.ensures at c.ledger_sound-ledger.ensures) c.charges_sound-yen.ensures in
    others_no b (sym told ∙ c.if-not-cells-taken.true)

pub lifts_sound-lifted-requires : goal.lifts_sound-lifted-requires
lifts_sound-lifted-requires c =
    let b = shared_book c.args.s c.args.columns in
    let told = others_as b _ _ _ _ c.nets_sound-cells.ensures c.delivered_sound-taken.ensures (rw c.ledger_of.ensures at c.ledger_sound-ledger.ensures) c.charges_sound-yen.ensures in
    record {
      nets = c.requires.cells.nets;
      delivered = c.requires.cells.delivered;
      lifts = c.requires.lifts;
      sound = nets_yes b (sym told ∙ c.if-not-cells-taken.false);
    }

pub entries_even-entries-requires : goal.entries_even-entries-requires
entries_even-entries-requires c =
    let b = shared_book c.args.s c.args.columns in
    let told = others_as b _ _ _ _ c.nets_sound-cells.ensures c.delivered_sound-taken.ensures (rw c.ledger_of.ensures at c.ledger_sound-ledger.ensures) c.charges_sound-yen.ensures in
    let n = count_yes b (sym told ∙ c.if-not-cells-taken.false) in
    (omega (arith, c.requires.ledger.issues), omega (arith, c.requires.ledger.lots))

pub returns : goal.returns
returns c =
    let b = shared_book c.args.s c.args.columns in
    let told = others_as b _ _ _ _ c.nets_sound-cells.ensures c.delivered_sound-taken.ensures (rw c.ledger_of.ensures at c.ledger_sound-ledger.ensures) c.charges_sound-yen.ensures in
    others_yes b (sym told ∙ c.if-not-cells-taken.false) c.lifts_sound-lifted.result c.cells_even-cells.result c.entries_even-entries.result
    c.lifts_sound-lifted.ensures c.cells_even-cells.ensures
    (lots_entries b.state.marks b.state.entries b.issues b.froms b.tos b.lots b.days c.entries_even-entries.result c.entries_even-entries.ensures)
