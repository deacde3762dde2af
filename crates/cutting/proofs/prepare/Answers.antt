-- The issue's rows are cut out of the columns; what is answered of them stands for the issue's fails.
use mathlib.Core.Path.{◌∙◌}
use mathlib.Core.Bool.{false}
use mathlib.Core.List.{◌++◌}
use native.Mathlib.Omega.{arith}
use lib.ListN.{drop}
use lib.Seq.{length-take-le}
use Rattle.rules.specs.Book.{order_in}
use Rattle.runs.proofs.Cells.{row_part, total_small}
use Rattle.units.specs.Cursor.{Started}
use Rattle.units.proofs.Begins.{units_front, held_front, started_front}
use Rattle.cutting.proofs.Issues.{owing, ready}
use Rattle.cutting.proofs.prepare.Goals as goal

pub total-d-requires : goal.total-d-requires
total-d-requires c =
    let a = c.args in
    rw (row_part a.delivered.now a.i) (total_small a.nets.now a.delivered.now a.lifts.now c.requires.sound a.i c.requires.issue)

pub missing_of-requires : goal.missing_of-requires
missing_of-requires c =
    let a = c.args in
    rw (row_part a.nets.now a.i, row_part a.delivered.now a.i)
    (owing a.nets.now a.delivered.now a.lifts.now a.i c.requires.issue c.requires.sound _ c.requires.accounts)

pub start-p-requires : goal.start-p-requires
start-p-requires c = held_front c.prepare-n.new.runs c.prepare-n.result c.prepare-n.ensures.held

pub returns : goal.returns
returns c =
    let a = c.args in
    let q = c.prepare-n in
    let p = c.start-p in
    let us = order_in false a.nets.now a.lifts.now a.i in
    let many = length-take-le q.result q.new.runs q.ensures.held.there in
    let started : Started us p.new.runs q.result c.total-d.result p.result =
    rw (units_front q.new.runs q.result, q.ensures.units, many) at p.ensures in
    ready false a.nets.now a.delivered.now a.lifts.now a.i c.requires.issue c.requires.sound
    (p.new.runs ++ drop q.result q.new.runs) c.missing_of.new.short q.result c.total-d.result p.result
    (rw (row_part a.delivered.now a.i) at c.total-d.ensures)
    (rw (row_part a.nets.now a.i, row_part a.delivered.now a.i) at c.missing_of.ensures)
    (omega (arith, c.missing_of.auto.short, c.requires.accounts)) (omega (arith, q.ensures.held.there))
    (started_front us p.new.runs (drop q.result q.new.runs) q.result c.total-d.result p.result (p.auto.runs ∙ many) started)
