-- Question 25, and then the shares.
use Rattle.std.proofs.Common.{ap, ◌∙◌, arith}
use Rattle.contributions.specs.Funds.{answered}
use Rattle.funds.proofs.Answers.{uncovered_refused, covered_done}
use Rattle.funds.proofs.cover.Goals as goal

pub returns-then-uncovered-ne0 : goal.returns-then-uncovered-ne0
returns-then-uncovered-ne0 c =
    let a = c.args in
    uncovered_refused a.averages.now a.bases.now a.funds a.out.now (omega (arith, c.uncovered.ensures))

pub returns : goal.returns
returns c =
    let a = c.args in
    ap (answered 0) c.share_out.ensures
    ∙ covered_done a.averages.now a.bases.now a.funds a.out.now (omega (arith, c.uncovered.ensures))
