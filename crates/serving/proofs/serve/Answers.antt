-- What is covered after the delivery and was not before is handed over.
use mathlib.Core.Path.{ap}
use mathlib.Core.Bool.{false}
use native.Mathlib.Omega.{arith}
use Rattle.rules.specs.Book.{order_in}
use Rattle.laws.proofs.Dealt.{lots_in}
use Rattle.runs.specs.Runs.{units_in}
use Rattle.handing.specs.Handing.{NewlyCovered}
use Rattle.serving.proofs.Served.{newly_there, newly_number, newly_same, served}
use Rattle.serving.proofs.Named.{served_as}
use Rattle.serving.proofs.serve.Goals as goal

pub hand-requires : goal.hand-requires
unfolding units_in
hand-requires c =
    let a = c.args in
    let newly : NewlyCovered (order_in false a.nets.now a.lifts.now a.i) a.d a.x c.newly_covered-p.result =
    newly_same _ _ _ _ _ (ap lots_in c.prepare-n.ensures.units) c.newly_covered-p.ensures in
    record {
      issue = c.requires.order.issue;
      there = newly_there _ _ _ _ c.newly_covered-p.ensures;
      room = omega (arith, newly_number _ _ _ _ newly, c.requires.few, c.requires.room);
    }

pub returns : goal.returns
unfolding units_in
returns c =
    let a = c.args in
    served_as _ _ _ _ _ _ _ _ c.prepare-n.ensures.units
    (served _ _ _ _ c.newly_covered-p.ensures a.i a.out.now c.hand.new.out c.hand.ensures)
