-- One run further.
use native.Mathlib.Omega.{arith}
use borrow.Author.Rules.{rules}
use Rattle.runs.proofs.Words.{number_at}
use Rattle.handover.proofs.number.Goals as goal

pub loop-run-preserved : goal.loop-run-preserved
loop-run-preserved c =
    let l = c.loop-run in
    let k = c.type_inv.runs l.run-index in
    (omega (arith, k), omega (arith, l.invariant.1, number_at c.args.runs.now l.run-index (search rules)))
