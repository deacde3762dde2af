use native.Mathlib.Omega.{arith}
use Rattle.seeking.proofs.Passing.{none_start}
use Rattle.removing.proofs.Looking.{zero_turn}
use Rattle.removing.proofs.none_zero.Goals as goal

pub loop-k-init : goal.loop-k-init
loop-k-init c = (omega arith, λ y. none_start _ _)

pub loop-k-preserved : goal.loop-k-preserved
loop-k-preserved c =
    let l = c.loop-k in
    let g = c.args in
    (omega (arith, l.invariant.0), zero_turn g.lots.now g.s l.k l.none l.invariant.1)

pub returns : goal.returns
returns c y k h l = c.loop-k.invariant.1 y k h (omega (arith, c.loop-k-test.false))
