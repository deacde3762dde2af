-- The day is the only question, and what is named.
use Rattle.std.proofs.Common.{refl}
use Rattle.std.proofs.lemmas.Result.{err_from_is_err_and}
use Rattle.rules.specs.Calls.{Turn as NameTurn}
use Rattle.answers.specs.Turns.{in_state}
use Rattle.answers.proofs.Turning.{turn_no, turn_yes}
use Rattle.settings.proofs.Turned.{turned_on}
use Rattle.settings.proofs.turn.Goals as goal

pub returns-in_err-turn_asks : goal.returns-in_err-turn_asks
returns-in_err-turn_asks c out b q =
    let p = err_from_is_err_and c.from_residual.result c.from_residual.ensures.1 in
    rw (p.1, p.2) (turn_no (in_state c.args.s b) (NameTurn c.args.d) out refl q _ c.in_err-turn_asks.ensures)

pub returns : goal.returns
returns c out b q =
    let a = c.args in
    rw c.done.ensures
    (turn_yes (in_state a.s b) (NameTurn a.d) out refl q 0 0 _ _ _ c.in_ok-turn_asks.ensures
    (turned_on a.s _ a.d b out c.with_turn-next.ensures))
