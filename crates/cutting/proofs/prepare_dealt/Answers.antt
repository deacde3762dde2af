-- The same with the stretches of what waits, by the contract of `start`.
use mathlib.Core.Bool.{true}
use native.Mathlib.Omega.{arith}
use Rattle.runs.proofs.Cells.{row_part, total_small}
use Rattle.cutting.proofs.Issues.{owing, ready}
use Rattle.cutting.proofs.prepare_dealt.Goals as goal

pub total-d-requires : goal.total-d-requires
total-d-requires c =
    let a = c.args in
    rw (row_part a.delivered.now a.i) (total_small a.nets.now a.delivered.now a.lifts.now c.requires.sound a.i c.requires.issue)

pub missing_of-requires : goal.missing_of-requires
missing_of-requires c =
    let a = c.args in
    rw (row_part a.nets.now a.i, row_part a.delivered.now a.i)
    (owing a.nets.now a.delivered.now a.lifts.now a.i c.requires.issue c.requires.sound _ c.requires.accounts)

pub returns : goal.returns
returns c =
    let a = c.args in
    let t = c.total-d in
    let m = c.missing_of in
    let v = c.start-b in
    ready true a.nets.now a.delivered.now a.lifts.now a.i c.requires.issue c.requires.sound
    v.new.out m.new.short v.result.n t.result v.result.position
    (rw (row_part a.delivered.now a.i) at t.ensures)
    (rw (row_part a.nets.now a.i, row_part a.delivered.now a.i) at m.ensures)
    (omega (arith, m.auto.short, c.requires.accounts)) v.ensures.there v.ensures.started
