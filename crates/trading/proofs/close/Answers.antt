-- The phase is the only question, and what changes.
use Rattle.std.proofs.Common.{refl}
use Rattle.std.proofs.lemmas.Result.{err_from_is_err_and}
use Rattle.rules.specs.Calls.{Close}
use Rattle.answers.specs.Turns.{in_state}
use Rattle.answers.proofs.Turning.{turn_no, turn_yes}
use Rattle.trading.proofs.Turned.{closed}
use Rattle.trading.proofs.close.Goals as goal

pub returns-in_err-close_asks : goal.returns-in_err-close_asks
returns-in_err-close_asks c out b q =
    let p = err_from_is_err_and c.from_residual.result c.from_residual.ensures.1 in
    rw (p.1, p.2) (turn_no (in_state c.args.s b) Close out refl q _ c.in_err-close_asks.ensures)

pub returns : goal.returns
returns c out b q =
    let s = c.args.s in
    rw c.done.ensures
    (turn_yes (in_state s b) Close out refl q 0 0 _ _ _ c.in_ok-close_asks.ensures (closed s _ b out c.with_phase-next.ensures))
