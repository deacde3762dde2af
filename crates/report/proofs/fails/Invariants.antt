-- The text so far, and that of the entries left, are the text of all.
use Rattle.std.proofs.Common.{◌≡◌, ◌≤◌, ◌*◌, length}
use Rattle.rules.specs.Text.{fails_text}
use Rattle.ledger.proofs.Left.{left}
use Rattle.report.specs.Entries.{shared_entries}
use Rattle.report.proofs.Texts.{Left}
use Rattle.report.proofs.fails.Given as goal

abbrev pub invariant-loop-k : goal.invariant-loop-k
invariant-loop-k l =
    (length l.text ≡ length l.fn.text)
    × (l.at ≤ 107 * l.k)
    × Left l.fn.text l.text 0 l.at (fails_text (left l.k l.entries l.columns.issues.now l.columns.froms.now l.columns.tos.now l.columns.lots.now l.columns.days.now))
    (fails_text (shared_entries l.entries l.columns))
