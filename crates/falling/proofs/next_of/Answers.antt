use mathlib.Core.Path.{◌∙◌}
use Rattle.falling.proofs.Seeking.{seek_last, seek_left, seek_zero}
use Rattle.falling.proofs.next_of.Goals as goal

pub returns-in_err-j : goal.returns-in_err-j
returns-in_err-j c =
    let a = c.args in
    c.from_residual.ensures
    ∙ seek_last a.entries a.issues.now a.accounts.now a.lots.now a.i a.a _ c.loop-j.invariant.1 (rw c.in_err-j.was at c.seek.ensures)

pub returns-then-lots-j-ne0 : goal.returns-then-lots-j-ne0
returns-then-lots-j-ne0 c =
    let a = c.args in
    seek_left a.entries a.issues.now a.accounts.now a.lots.now a.i a.a _ c.loop-j.invariant.1 (rw c.in_ok-j.was at c.seek.ensures) c.if-lots-j-ne0.true

pub loop-j-preserved : goal.loop-j-preserved
loop-j-preserved c =
    let a = c.args in
    seek_zero a.entries a.issues.now a.accounts.now a.lots.now a.i a.a _ c.loop-j.invariant.1 (rw c.in_ok-j.was at c.seek.ensures) c.if-lots-j-ne0.false
