-- With no 'no' the numbers rise, the units of what waits are handed over, and what waits then is kept.
use Rattle.std.proofs.Common.{false, sym}
use Rattle.std.proofs.lemmas.Result.{err_from_is_err_and}
use Rattle.rules.specs.Book.{delivered_total, order_in}
use Rattle.runs.proofs.Cells.{owed_cells}
use Rattle.delivery.proofs.Asking.{asked, ready_cells}
use Rattle.delivery.proofs.Serving.{can_raise}
use Rattle.delivery.proofs.Turned.{delivery_refused, delivery_made}
use Rattle.delivery.proofs.Counted.{kept_on}
use Rattle.delivery.proofs.Keeping.{can_hand_kept}
use Rattle.delivery.proofs.deliver_kept.Goals as goal

pub deliver_asks-requires : goal.deliver_asks-requires
deliver_asks-requires c = let a = c.args in let r = c.requires.0 in owed_cells _ _ _ (ready_cells a.s a.nets.now a.delivered.now a.lifts.now r.0 r.1 r.2)

pub returns-in_err-deliver_asks-clause-turned : goal.returns-in_err-deliver_asks-clause-turned
returns-in_err-deliver_asks-clause-turned c b q =
    let a = c.args in
    let p = err_from_is_err_and c.from_residual.result c.from_residual.ensures.1 in
    rw (p.1, p.2) (delivery_refused a.s a.nets.now a.delivered.now a.lifts.now a.i a.a a.x a.out.now c.requires.1 b q _ c.in_err-deliver_asks.ensures)

pub make-requires : goal.make-requires
make-requires c =
    let a = c.args in
    let r = c.requires.0 in
    let can = asked a.s a.nets.now a.delivered.now a.lifts.now a.i a.a a.x r.0 r.1 r.2 c.in_ok-deliver_asks.ensures a.out.now c.requires.1 in
    record { sound = can.sound; issue = can.issue; kept = r.3 }

pub raise-requires : goal.raise-requires
raise-requires c =
    let a = c.args in
    let r = c.requires.0 in
    let can = asked a.s a.nets.now a.delivered.now a.lifts.now a.i a.a a.x r.0 r.1 r.2 c.in_ok-deliver_asks.ensures a.out.now c.requires.1 in
    can_raise _ _ _ _ _ _ _ can

pub hand_kept-count-requires : goal.hand_kept-count-requires
hand_kept-count-requires c =
    let a = c.args in
    let r = c.requires.0 in
    let can = asked a.s a.nets.now a.delivered.now a.lifts.now a.i a.a a.x r.0 r.1 r.2 c.in_ok-deliver_asks.ensures a.out.now c.requires.1 in
    can_hand_kept _ _ _ _ _ _ _ _ can c.make.ensures.here

pub returns-clause-turned : goal.returns-clause-turned
returns-clause-turned c b q =
    let a = c.args in
    let h = c.hand_kept-count.ensures (order_in false a.nets.now a.lifts.now a.i) (delivered_total a.delivered.now a.i) c.make.ensures.here in
    let o = c.raise.ensures in
    delivery_made a.s a.nets.now a.delivered.now a.lifts.now a.i a.a a.x a.out.now c.requires.1 b q false _ _ _ c.hand_kept-count.result
    c.in_ok-deliver_asks.ensures (sym c.requires.2)
    (record { column = o.0; counted = o.1; count = h.1.count; output = h.1.output })

pub returns-clause-kept : goal.returns-clause-kept
returns-clause-kept c =
    let a = c.args in
    let r = c.requires.0 in
    let can = asked a.s a.nets.now a.delivered.now a.lifts.now a.i a.a a.x r.0 r.1 r.2 c.in_ok-deliver_asks.ensures a.out.now c.requires.1 in
    let h = c.hand_kept-count.ensures (order_in false a.nets.now a.lifts.now a.i) (delivered_total a.delivered.now a.i) c.make.ensures.here in
    kept_on _ _ _ _ _ _ _ can _ c.hand_kept-count.new.k c.make.ensures.kept h.0 _ _ c.raise.ensures
