-- The operator is answered as without a caller, any other by the number of its refusal.
use Rattle.std.proofs.Common.{◌∙◌, sym, ap}
use Rattle.rules.specs.Book.{is_settling}
use Rattle.rules.specs.Calls.{Commit}
use Rattle.rules.specs.Refusals.{number_of}
use Rattle.host.specs.States.{state_in}
use Rattle.host.specs.Lifts.{ticket_in, lifting_book}
use Rattle.callers.specs.Callers.{unless_unsound}
use Rattle.callers.proofs.ByCaller.{operator_made}
use Rattle.callers.proofs.AskingBy.{commit_short_by, commit_without}
use Rattle.callers.proofs.day_commit_as.Goals as goal

pub returns-then-is_operator : goal.returns-then-is_operator
returns-then-is_operator c =
    let a = c.args in
    rw (← operator_made a.w a.state.phase (lifting_book (state_in a.state) a.columns a.lifts.now) (sym c.is_operator.ensures ∙ c.if-is_operator.true) (Commit (ticket_in a.ticket.now)) a.out.now)
    c.day_commit.ensures

pub returns-then-out-lt-OUTPUT_WORDS : goal.returns-then-out-lt-OUTPUT_WORDS
returns-then-out-lt-OUTPUT_WORDS c =
    let a = c.args in
    rw c.number.ensures
    (commit_short_by a.w (sym c.is_operator.ensures ∙ c.if-is_operator.false) a.state.phase (lifting_book (state_in a.state) a.columns a.lifts.now) (ticket_in a.ticket.now) a.out.now c.if-out-lt-OUTPUT_WORDS.true)

pub returns : goal.returns
returns c =
    let a = c.args in
    rw (c.number-2.ensures, c.unless_unsound-no.ensures, ap (unless_unsound (number_of c.refuse.result) a.state.phase) (c.beside.ensures (state_in a.state)))
    (commit_without a.w (sym c.is_operator.ensures ∙ c.if-is_operator.false) a.state.phase (lifting_book (state_in a.state) a.columns a.lifts.now) (ticket_in a.ticket.now) a.out.now c.if-out-lt-OUTPUT_WORDS.false
    c.settling-settling.result (number_of c.refuse.result) (c.settling-settling.ensures ∙ ap is_settling c.phase_of.ensures) c.refuse.ensures)
