use Rattle.std.proofs.Common.{arith}
use Rattle.leaps.proofs.Columns.{advanced}
use Rattle.leaps.proofs.advance.Goals as goal

pub returns : goal.returns
returns c =
    let a = c.args in
    let l = c.loop-c in
    advanced a.k a.xs.now a.delivered.now l.delivered l.c l.auto.delivered (omega arith) l.invariant.risen
