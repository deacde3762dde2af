use native.Mathlib.Omega.{arith}
use Rattle.seeking.proofs.Owing.{asking_none, asking_more}
use Rattle.seeking.proofs.owes.Goals as goal

pub returns-in_default : goal.returns-in_default
returns-in_default c =
    asking_none c.loop-left.invariant c.in_default.ensures c.loop-left-test.true

pub loop-left-preserved : goal.loop-left-preserved
loop-left-preserved c = asking_more c.loop-left.invariant c.in-Some.ensures (omega (arith, c.saturating_sub-left.ensures))
