use mathlib.Core.Path.{sym, ◌∙◌}
use Rattle.cutting.specs.Write.{lending}
use Rattle.cutting.proofs.Cutting.{nothing_cut, Behind, can_hand, stock_handed}
use Rattle.cutting.proofs.cut_issue.Goals.{After-hand_stock-v}
use Rattle.cutting.proofs.cut_issue.Goals as goal

pub settled-requires : goal.settled-requires
settled-requires c = (record { nets = c.requires.sound.cells; delivered = c.requires.sound.both }, c.requires.issue)

pub returns-then-settled-clause-done : goal.returns-then-settled-clause-done
returns-then-settled-clause-done c =
    let a = c.args in
    rw c.numbers.ensures
    (nothing_cut a.dealt a.nets.now a.delivered.now a.lifts.now a.day a.i a.n (lending a.ledger.now a.out.now)
    c.requires (sym c.settled.ensures ∙ c.if-settled.true))

pub hand_stock-v-requires : goal.hand_stock-v-requires
hand_stock-v-requires c =
    let a = c.args in
    let p = c.prepare_for-p in
    can_hand a.dealt a.nets.now a.delivered.now a.lifts.now a.day a.i a.n (lending a.ledger.now a.out.now) c.requires p.new.runs p.new.missing p.result p.ensures

-- the stock's record is written
handed : (c : After-hand_stock-v) →
    let a = c.args in
    let p = c.prepare_for-p in
    Behind a.dealt a.nets.now a.delivered.now a.lifts.now a.day a.i a.n (lending a.ledger.now a.out.now)
    p.new.runs p.new.missing p.result c.hand_stock-v.result c.hand_stock-v.new.out
handed c =
    let a = c.args in
    let p = c.prepare_for-p in
    let v = c.hand_stock-v in
    stock_handed a.dealt a.nets.now a.delivered.now a.lifts.now a.day a.i a.n (lending a.ledger.now a.out.now)
    c.requires p.new.runs p.new.missing p.result p.ensures v.result v.new.out v.ensures

pub lay-m-requires : goal.lay-m-requires
lay-m-requires c = (handed (goal.at.lay-m-requires c).After-hand_stock-v).can

pub returns-clause-done : goal.returns-clause-done
returns-clause-done c =
    let l = c.lay-m in
    rw c.numbers-2.ensures
    ((handed (goal.at.returns-clause-done c).After-hand_stock-v).done l.result (lending l.new.ledger l.new.out) l.ensures.done)
