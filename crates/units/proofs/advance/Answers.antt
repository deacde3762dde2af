-- On to a shortfall, on to a run; of the two the smaller is laid, and the other keeps its rest.
use native.Mathlib.Omega.{arith}
use Rattle.units.proofs.Steps.{none_short, none_run, hand_least}
use Rattle.units.proofs.advance.Goals as goal

pub returns-in_err-s : goal.returns-in_err-s
returns-in_err-s c =
    let a = c.args in
    rw c.from_residual.ensures (none_short a.runs.now a.missing.now a.c c.in_err-s.ensures)

pub returns-in_err-v : goal.returns-in_err-v
returns-in_err-v c =
    let a = c.args in
    rw c.from_residual-in_err-v.ensures (none_run a.runs.now a.missing.now a.c c.in_ok-s.s c.in_ok-s.ensures c.in_err-v.ensures)

pub returns : goal.returns
returns c =
    let a = c.args in
    rw c.overlap_of.ensures
    (hand_least a.runs.now a.missing.now a.c c.in_ok-s.s c.in_ok-s.ensures c.in_ok-v.v c.in_ok-v.ensures c.min.result (omega (arith, c.min.ensures)))
