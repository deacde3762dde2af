-- Column after column.
use Rattle.std.proofs.Common.{ap, ◌∙◌}
use lib.Seq.{sets}
use Rattle.saving.specs.Laying.{ledger_columns}
use Rattle.saving.proofs.Laid.{ledger_widths, ledger_widths_lem}
use Rattle.saving.proofs.Loops.{stored_joined}
use Rattle.saving.proofs.put_ledger.Goals as goal

pub returns : goal.returns
returns c =
    let a = c.args in
    c.put32.ensures.stored
    ∙ ap (λ l. sets l 4535 a.columns.lots.now) c.put_entries.ensures
    ∙ stored_joined ledger_widths (ledger_columns a.columns) a.out.now 2487
    (ledger_widths_lem c.args.columns c.requires.lengths)
