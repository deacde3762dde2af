-- With no 'no' the numbers rise, and what waits is kept.
use Rattle.std.proofs.Common.{false, refl}
use Rattle.std.proofs.lemmas.Result.{err_from_is_err_and}
use Rattle.rules.specs.Calls.{deliver_records}
use Rattle.rules.specs.Book.{in_force, delivered_total, order_in}
use Rattle.rules.specs.Records.{words, over}
use Rattle.rules.specs.Run.{any_output}
use Rattle.runs.proofs.Cells.{owed_cells}
use Rattle.answers.proofs.Turning.{says}
use Rattle.delivery.proofs.Asking.{asked, ready_cells}
use Rattle.delivery.proofs.Serving.{can_raise}
use Rattle.delivery.proofs.Turned.{delivery_refused, delivery_made}
use Rattle.delivery.proofs.Counted.{any_room, stock_fits, kept_on, same_number}
use Rattle.delivery.proofs.deliver_counted.Goals as goal

pub deliver_asks-requires : goal.deliver_asks-requires
deliver_asks-requires c = let a = c.args in owed_cells _ _ _ (ready_cells a.s a.nets.now a.delivered.now a.lifts.now c.requires.0 c.requires.1 c.requires.2)

pub returns-in_err-deliver_asks-clause-told : goal.returns-in_err-deliver_asks-clause-told
returns-in_err-deliver_asks-clause-told c b q =
    let a = c.args in
    let p = err_from_is_err_and c.from_residual.result c.from_residual.ensures.1 in
    rw (p.1, p.2)
    (says (delivery_refused a.s a.nets.now a.delivered.now a.lifts.now a.i a.a a.x any_output any_room b q _ c.in_err-deliver_asks.ensures))

pub make-requires : goal.make-requires
make-requires c =
    let a = c.args in
    let can = asked a.s a.nets.now a.delivered.now a.lifts.now a.i a.a a.x c.requires.0 c.requires.1 c.requires.2 c.in_ok-deliver_asks.ensures any_output any_room in
    record { sound = can.sound; issue = can.issue; kept = c.requires.3 }

pub raise-requires : goal.raise-requires
raise-requires c =
    let a = c.args in
    let can = asked a.s a.nets.now a.delivered.now a.lifts.now a.i a.a a.x c.requires.0 c.requires.1 c.requires.2 c.in_ok-deliver_asks.ensures any_output any_room in
    can_raise _ _ _ _ _ _ _ can

pub more-count-requires : goal.more-count-requires
more-count-requires c =
    let a = c.args in
    let can = asked a.s a.nets.now a.delivered.now a.lifts.now a.i a.a a.x c.requires.0 c.requires.1 c.requires.2 c.in_ok-deliver_asks.ensures any_output any_room in
    (c.make.ensures.here.ready, stock_fits _ _ _ _ _ _ _ _ can c.make.ensures.here)

pub returns-clause-told : goal.returns-clause-told
returns-clause-told c b q =
    let a = c.args in
    let new = in_force a.s.turn a.s.day in
    let m = c.more-count.ensures (order_in false a.nets.now a.lifts.now a.i) (delivered_total a.delivered.now a.i) c.make.ensures.here in
    let o = c.raise.ensures in
    says
    (delivery_made a.s a.nets.now a.delivered.now a.lifts.now a.i a.a a.x any_output any_room b q new _ _
    (over (words (deliver_records (order_in new a.nets.now a.lifts.now) a.delivered.now a.i a.x)) any_output) c.more-count.result
    c.in_ok-deliver_asks.ensures refl
    (record { column = o.0; counted = o.1; count = same_number new a.nets.now a.delivered.now a.lifts.now a.i a.x c.more-count.result m.1; output = refl }))

pub returns-clause-kept : goal.returns-clause-kept
returns-clause-kept c =
    let a = c.args in
    let can = asked a.s a.nets.now a.delivered.now a.lifts.now a.i a.a a.x c.requires.0 c.requires.1 c.requires.2 c.in_ok-deliver_asks.ensures any_output any_room in
    let m = c.more-count.ensures (order_in false a.nets.now a.lifts.now a.i) (delivered_total a.delivered.now a.i) c.make.ensures.here in
    kept_on _ _ _ _ _ _ _ can _ c.more-count.new.k c.make.ensures.kept m.0 _ _ c.raise.ensures
