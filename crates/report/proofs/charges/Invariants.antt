-- The text so far, and that of the charges left, are the text of all.
use Rattle.std.proofs.Common.{◌≡◌, ◌≤◌, ◌+◌, ◌*◌, length, drop}
use Rattle.rules.specs.Run.{charge_lines_from}
use Rattle.rules.specs.Text.{charges_text}
use Rattle.report.proofs.Texts.{Left}
use Rattle.report.proofs.charges.Given as goal

abbrev pub invariant-loop-a : goal.invariant-loop-a
invariant-loop-a l =
    (length l.text ≡ length l.fn.text)
    × (l.end ≤ l.fn.at + 45 * l.a)
    × Left l.fn.text l.text l.fn.at l.end (charges_text (charge_lines_from l.a (drop l.a l.charges))) (charges_text (charge_lines_from 0 l.fn.charges))
