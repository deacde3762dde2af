-- One line more.
use Rattle.std.proofs.Common.{ap, arith, rules}
use Rattle.ledger.proofs.Left.{left_next}
use Rattle.rules.specs.Text.{fails_text}
use Rattle.report.proofs.Texts.{left_on}
use Rattle.report.proofs.fails.Goals as goal

pub loop-k-preserved : goal.loop-k-preserved
loop-k-preserved c =
    let l = c.loop-k in
    let a = c.args in
    let e = ap fails_text (left_next l.k a.entries a.columns.issues.now a.columns.froms.now a.columns.tos.now a.columns.lots.now a.columns.days.now (omega arith)) in
    (search rules, omega (arith, c.fail-at.ensures.few), left_on 107 _ _ _ _ _ _ _ _ _ (rw e at l.invariant.2) c.fail-at.ensures)
