-- With no 'no' the delivery is made in place.
use Rattle.std.proofs.lemmas.Result.{err_from_is_err_and}
use Rattle.runs.proofs.Cells.{owed_cells}
use Rattle.delivery.proofs.Asking.{asked, ready_cells}
use Rattle.delivery.proofs.Turned.{delivery_refused, delivery_made}
use Rattle.delivery.proofs.deliver.Goals as goal

pub deliver_asks-requires : goal.deliver_asks-requires
deliver_asks-requires c = let a = c.args in owed_cells _ _ _ (ready_cells a.s a.nets.now a.delivered.now a.lifts.now c.requires.0 c.requires.1 c.requires.2)

pub returns-in_err-deliver_asks : goal.returns-in_err-deliver_asks
returns-in_err-deliver_asks c b q =
    let a = c.args in
    let p = err_from_is_err_and c.from_residual.result c.from_residual.ensures.1 in
    rw (p.1, p.2) (delivery_refused a.s a.nets.now a.delivered.now a.lifts.now a.i a.a a.x a.out.now c.requires.3 b q _ c.in_err-deliver_asks.ensures)

pub deliver_in-count-requires : goal.deliver_in-count-requires
deliver_in-count-requires c =
    let a = c.args in
    asked a.s a.nets.now a.delivered.now a.lifts.now a.i a.a a.x c.requires.0 c.requires.1 c.requires.2 c.in_ok-deliver_asks.ensures a.out.now c.requires.3

pub returns : goal.returns
returns c b q =
    let a = c.args in
    let d = c.deliver_in-count in
    let o = c.dealt_today-dealt in
    delivery_made a.s a.nets.now a.delivered.now a.lifts.now a.i a.a a.x a.out.now c.requires.3 b q o.result _ _ _ d.result c.in_ok-deliver_asks.ensures
    o.ensures d.ensures
