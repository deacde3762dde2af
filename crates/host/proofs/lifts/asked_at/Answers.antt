-- Question 2, and then the ask in place.
use Rattle.std.proofs.lemmas.Result.{err_from_is_err_and}
use Rattle.rules.specs.Calls.{asked_answer}
use Rattle.columns.specs.Books.{shared_book}
use Rattle.host.specs.States.{state_in}
use Rattle.host.proofs.Holding.{cells_of}
use Rattle.host.proofs.Asking.{ask_unsound, ask_told}
use Rattle.host.proofs.lifts.asked_at.Goals as goal

pub returns-in_err-s : goal.returns-in_err-s
returns-in_err-s c =
    let a = c.args in
    let p = err_from_is_err_and c.from_residual.result c.from_residual.ensures.1 in
    rw (p.1, p.2, c.in_err-s.ensures.0) (ask_unsound a.state.phase (shared_book (state_in a.state) a.columns) a.issue a.unit c.in_err-s.ensures.1)

pub ask_in-requires : goal.ask_in-requires
ask_in-requires c = cells_of c.args.state.phase (shared_book (state_in c.args.state) c.args.columns) c.in_ok-s.ensures.1

pub returns : goal.returns
returns c =
    let a = c.args in
    ask_told a.state.phase (shared_book (state_in a.state) a.columns) a.issue a.unit c.in_ok-s.ensures.1 (asked_answer c.ask_in.result) _
    (rw c.in_ok-s.ensures.0 at c.dealt_today-dealt.ensures) (rw c.in_ok-s.ensures.0 at c.ask_in.ensures)
