use native.Mathlib.Omega.{arith}
use Rattle.seeking.proofs.Passing.{passed_start, passed_more}
use Rattle.seeking.proofs.pass.Goals as goal

pub loop-k-init : goal.loop-k-init
loop-k-init c = passed_start _ _ _ c.requires.1.start

pub loop-k-preserved : goal.loop-k-preserved
loop-k-preserved c =
    passed_more _ _ _ _ _ c.loop-k.invariant (omega arith)
    (omega (arith, c.loop-k.invariant.most, c.loop-k-test.true))
    (c.none_in.ensures c.if-not-none_in.false)
