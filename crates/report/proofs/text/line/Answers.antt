-- What follows the index stands behind it.
use Rattle.std.proofs.Common.{◌∙◌, ap, arith, ℕ, List, ◌++◌}
use Rattle.rules.specs.Text.{decimal}
use Rattle.report.proofs.Texts.{added_then, added_as, line_rest, plain_rest}
use Rattle.report.proofs.text.line.Goals as goal

pub returns-then-refusal-ne0 : goal.returns-then-refusal-ne0
returns-then-refusal-ne0 c =
    let a = c.args in
    added_as 72 72 _ _ _ _ _ _ (omega arith) (line_rest a.index a.n a.refusal a.count)
    (added_then 20 52 72 _ _ _ _ _ _ _ _ (omega arith) c.number-to.ensures c.rest.ensures)

pub returns-then-count-ne0 : goal.returns-then-count-ne0
returns-then-count-ne0 c =
    let a = c.args in
    added_as 72 72 _ _ _ _ _ _ (omega arith) (line_rest a.index a.n a.refusal a.count)
    (added_then 20 52 72 _ _ _ _ _ _ _ _ (omega arith) c.number-to.ensures c.rest-then-count-ne0.ensures)

pub returns : goal.returns
returns c =
    let a = c.args in
    added_as 34 72 _ _ _ _ _ _ (omega arith)
    (ap (λ (l : List ℕ). decimal a.index ++ l) (plain_rest a.n a.refusal a.count c.if-refusal-ne0.false c.if-count-ne0.false) ∙ line_rest a.index a.n a.refusal a.count)
    (added_then 20 14 34 _ _ _ _ _ _ _ _ (omega arith) c.number-to.ensures c.plain.ensures)
