-- The issue's runs in the order without lifts are lifted, by the contracts of `ranked` and `lift_all`.
use native.Mathlib.Omega.{arith}
use Rattle.lifted.proofs.Lifted.{can_lift_all, prepared}
use Rattle.units.proofs.prepare.Goals as goal

pub lift_all-requires : goal.lift_all-requires
lift_all-requires c =
    let f = c.ranked-n in
    can_lift_all c.args.nets.now c.args.lifts.now c.args.i f.new.runs f.result c.requires.order f.ensures
    (omega (arith, c.requires.room, f.auto.runs))

pub returns : goal.returns
returns c =
    let f = c.ranked-n in
    let g = c.lift_all in
    prepared c.args.nets.now c.args.lifts.now c.args.i f.new.runs f.result c.requires.order f.ensures
    g.new.runs g.result (omega (arith, c.requires.room, f.auto.runs, g.auto.runs)) g.ensures
