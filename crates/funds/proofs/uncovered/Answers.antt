-- One base less, and no base.
use Rattle.std.proofs.Common.{rules, arith}
use Rattle.apportioning.proofs.Turns.{sum_at_lem, sum_end}
use Rattle.funds.proofs.uncovered.Goals as goal

pub loop-base-preserved : goal.loop-base-preserved
loop-base-preserved c =
    let l = c.loop-base in
    omega (arith, l.invariant, sum_at_lem c.args.bases.now l.base-index (search rules))

pub returns : goal.returns
returns c =
    let l = c.loop-base in
    omega (arith, l.invariant, sum_end c.args.bases.now l.base-index (omega arith))
