-- Each part stands behind the last.
use Rattle.std.proofs.Common.{arith}
use Rattle.rules.specs.Text.{fail_text}
use Rattle.report.proofs.Texts.{added_then}
use Rattle.report.proofs.text.fail.Goals as goal

pub returns : goal.returns
unfolding fail_text
returns c =
    let b = added_then 1 21 22 _ _ _ _ _ _ _ _ (omega arith) c.put-a.ensures c.field-b.ensures in
    let d = added_then 22 21 43 _ _ _ _ _ _ _ _ (omega arith) b c.field-c.ensures in
    let e = added_then 43 21 64 _ _ _ _ _ _ _ _ (omega arith) d c.field-e.ensures in
    let g = added_then 64 21 85 _ _ _ _ _ _ _ _ (omega arith) e c.field-g.ensures in
    let h = added_then 85 21 106 _ _ _ _ _ _ _ _ (omega arith) g c.field-h.ensures in
    added_then 106 1 107 _ _ _ _ _ _ _ _ (omega arith) h c.put.ensures
