-- The operator is answered as without a caller, any other by the number of its refusal.
use Rattle.std.proofs.Common.{◌∙◌, sym, ap}
use Rattle.rules.specs.Calls.{unit_refused}
use Rattle.rules.specs.Refusals.{number_of}
use Rattle.callers.proofs.ByCaller.{operator_unit_at}
use Rattle.callers.proofs.AskingBy.{unit_without}
use Rattle.columns.specs.Books.{shared_book}
use Rattle.host.specs.States.{state_in}
use Rattle.callers.proofs.day_unit_as.Goals as goal

pub returns-then-is_operator : goal.returns-then-is_operator
returns-then-is_operator c =
    let a = c.args in
    let b = shared_book (state_in a.state) a.columns in
    rw (← operator_unit_at a.w a.state.phase b (sym c.is_operator.ensures ∙ c.if-is_operator.true) a.issue a.k) c.day_unit.ensures

pub returns : goal.returns
returns c =
    let a = c.args in
    let b = shared_book (state_in a.state) a.columns in
    rw
    (← ap unit_refused c.unless_unsound-no.ensures
    ∙ unit_without a.w (sym c.is_operator.ensures ∙ c.if-is_operator.false) a.state.phase b a.issue a.k (number_of c.refuse.result) c.refuse.ensures)
    c.told.ensures
