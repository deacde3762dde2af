-- With no 'no' the nets are traded in place.
use Rattle.std.proofs.Common.{refl, sym}
use Rattle.std.proofs.lemmas.Result.{err_from_is_err_and}
use Rattle.rules.specs.Calls.{Trade}
use Rattle.answers.specs.Turns.{within_nets}
use Rattle.answers.proofs.Turning.{turn_no, turn_yes}
use Rattle.trading.proofs.Asks.{small_nets, tradable}
use Rattle.trading.proofs.Turned.{traded}
use Rattle.trading.proofs.trade.Goals as goal

pub trade_asks-requires : goal.trade_asks-requires
trade_asks-requires c =
    small_nets (within_nets c.args.s c.args.nets.now c.requires.1.rest) c.requires.1.sound c.requires.0

pub returns-in_err-trade_asks : goal.returns-in_err-trade_asks
returns-in_err-trade_asks c out b q =
    let a = c.args in
    let p = err_from_is_err_and c.from_residual.result c.from_residual.ensures.1 in
    rw (p.1, p.2)
    (turn_no (within_nets a.s a.nets.now b) (Trade a.i a.f a.t a.x) out refl q _ c.in_err-trade_asks.ensures)

pub trade_in-requires : goal.trade_in-requires
trade_in-requires c =
    let a = c.args in
    tradable a.s.phase a.s.marks a.nets.now a.i a.f a.t a.x
    (small_nets (within_nets a.s a.nets.now c.requires.1.rest) c.requires.1.sound c.requires.0)
    (sym c.in_ok-trade_asks.ensures)

pub returns : goal.returns
returns c out b q =
    let a = c.args in
    rw c.done.ensures
    (turn_yes (within_nets a.s a.nets.now b) (Trade a.i a.f a.t a.x) out refl q 0 0 _ _ _ c.in_ok-trade_asks.ensures
    (traded a.s a.nets.now _ a.i a.f a.t a.x b out c.trade_in.ensures))
