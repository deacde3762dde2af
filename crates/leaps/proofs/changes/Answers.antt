use Rattle.std.proofs.Common.{arith, ◌∙◌}
use Rattle.leaps.proofs.Columns.{changed}
use Rattle.leaps.proofs.changes.Goals as goal

pub returns : goal.returns
returns c =
    let a = c.args in
    let l = c.loop-c in
    changed l.xs a.after.now a.before.now l.c c.requires.0 (l.auto.xs ∙ c.requires.1) (omega arith) l.invariant
