-- The operator is answered as without a caller, any other by the number of its refusal.
use Rattle.std.proofs.Common.{◌∙◌, sym, ap}
use mathlib.Core.Bool.{not}
use Rattle.rules.specs.Book.{is_taking}
use Rattle.told.specs.Status.{status_refused}
use Rattle.rules.specs.Refusals.{number_of}
use Rattle.callers.proofs.ByCaller.{operator_status_at}
use Rattle.callers.proofs.AskingBy.{status_without}
use Rattle.columns.specs.Books.{shared_book}
use Rattle.host.specs.States.{state_in}
use Rattle.callers.proofs.day_status_as.Goals as goal

pub returns-then-is_operator : goal.returns-then-is_operator
returns-then-is_operator c =
    let a = c.args in
    let b = shared_book (state_in a.state) a.columns in
    rw (← operator_status_at a.w a.state.phase b (sym c.is_operator.ensures ∙ c.if-is_operator.true) a.issue a.k) c.day_status.ensures

pub returns : goal.returns
returns c =
    let a = c.args in
    let b = shared_book (state_in a.state) a.columns in
    rw
    (← ap status_refused c.unless_unsound-no.ensures
    ∙ status_without a.w (sym c.is_operator.ensures ∙ c.if-is_operator.false) a.state.phase b a.issue a.k (number_of c.refuse.result) _ (ap not (c.taking-taking.ensures ∙ ap is_taking c.phase_of.ensures)) c.refuse.ensures)
    c.plain.ensures
