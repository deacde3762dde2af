-- Each part stands behind the last.
use Rattle.std.proofs.Common.{arith}
use mir.Syntax.{w64}
use mir.ValLaws.{to_z-of_z}
use Rattle.rules.specs.Text.{charge_text}
use Rattle.report.proofs.Texts.{added_then}
use Rattle.report.proofs.text.charge.Goals as goal

pub returns : goal.returns
unfolding charge_text
returns c =
    let b = added_then 1 21 22 _ _ _ _ _ _ _ _ (omega arith) c.put-a.ensures c.field-b.ensures in
    let d = added_then 22 1 23 _ _ _ _ _ _ _ _ (omega arith) b c.put-c.ensures in
    let e = added_then 23 21 44 _ _ _ _ _ _ _ _ (omega arith) d (rw (to_z-of_z w64 c.args.yen c.ranges.yen) at c.signed-d.ensures) in
    added_then 44 1 45 _ _ _ _ _ _ _ _ (omega arith) e c.put.ensures
