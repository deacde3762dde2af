-- The operator is answered as without a caller, any other by the number of its refusal.
use Rattle.std.proofs.Common.{◌∙◌, sym, ap}
use Rattle.rules.specs.Book.{is_settling}
use Rattle.rules.specs.Calls.{no_ticket}
use Rattle.rules.specs.Refusals.{number_of}
use Rattle.callers.proofs.ByCaller.{operator_ask}
use Rattle.callers.proofs.AskingBy.{ask_without}
use Rattle.columns.specs.Books.{shared_book}
use Rattle.host.specs.States.{state_in}
use Rattle.callers.proofs.day_ask_as.Goals as goal

pub returns-then-is_operator : goal.returns-then-is_operator
returns-then-is_operator c =
    let a = c.args in
    let b = shared_book (state_in a.state) a.columns in
    rw (← operator_ask a.w a.state.phase b (sym c.is_operator.ensures ∙ c.if-is_operator.true) a.issue a.unit) c.day_ask.ensures

pub returns : goal.returns
returns c =
    let a = c.args in
    let b = shared_book (state_in a.state) a.columns in
    rw
    (← ap no_ticket c.unless_unsound-no.ensures
    ∙ ask_without a.w (sym c.is_operator.ensures ∙ c.if-is_operator.false) a.state.phase b a.issue a.unit (number_of c.refuse.result) _ (c.settling-settling.ensures ∙ ap is_settling c.phase_of.ensures) c.refuse.ensures)
    c.ticket_out.ensures
