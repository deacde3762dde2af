-- Each refusal is the first question answered 'no'; else the unit that the nets give.
use Rattle.std.proofs.Common.{arith}
use Rattle.std.proofs.lemmas.Result.{err_from_is_err_and}
use Rattle.columns.specs.Books.{shared_book}
use Rattle.runs.proofs.Cells.{can_order}
use Rattle.host.specs.States.{state_in}
use Rattle.host.proofs.Holding.{cells_of}
use Rattle.host.proofs.Asking.{unit_unsound, unit_issue, unit_found}
use Rattle.host.proofs.questions.unit_at.Goals as goal

pub returns-in_err-s : goal.returns-in_err-s
returns-in_err-s c =
    let a = c.args in
    let p = err_from_is_err_and c.from_residual.result c.from_residual.ensures.1 in
    rw (p.1, p.2, c.in_err-s.ensures.0) (unit_unsound a.state.phase (shared_book (state_in a.state) a.columns) a.issue a.k c.in_err-s.ensures.1)

pub returns-then-issue-gt-LAST_ISSUE : goal.returns-then-issue-gt-LAST_ISSUE
returns-then-issue-gt-LAST_ISSUE c =
    let a = c.args in
    unit_issue a.state.phase (shared_book (state_in a.state) a.columns) a.issue a.k c.in_ok-s.ensures.1 c.if-issue-gt-LAST_ISSUE.true

pub unit_in-found-requires : goal.unit_in-found-requires
unit_in-found-requires c =
    let a = c.args in
    let b = shared_book (state_in a.state) a.columns in
    can_order b.nets b.delivered b.lifts _ (cells_of a.state.phase b c.in_ok-s.ensures.1) (omega arith)

pub returns : goal.returns
returns c =
    let a = c.args in
    unit_found a.state.phase (shared_book (state_in a.state) a.columns) a.issue a.k c.in_ok-s.ensures.1 c.unit_in-found.result _ (omega arith)
    (rw c.in_ok-s.ensures.0 at c.dealt_today-dealt.ensures) c.unit_in-found.ensures
