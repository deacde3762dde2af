-- Question 2, and then what is told in place.
use Rattle.std.proofs.lemmas.Result.{err_from_is_err_and}
use Rattle.rules.specs.Book.{dealt_today}
use Rattle.columns.specs.Books.{shared_book}
use Rattle.told.specs.Status.{told_answer}
use Rattle.host.specs.States.{state_in}
use Rattle.host.proofs.Holding.{cells_of}
use Rattle.host.proofs.Asking.{status_unsound, status_told}
use Rattle.host.proofs.questions.told_at.Goals as goal

pub returns-in_err-s : goal.returns-in_err-s
returns-in_err-s c =
    let a = c.args in
    let p = err_from_is_err_and c.from_residual.result c.from_residual.ensures.1 in
    rw (p.1, p.2, c.in_err-s.ensures.0) (status_unsound a.state.phase (shared_book (state_in a.state) a.columns) a.issue a.k c.in_err-s.ensures.1)

pub status_in-requires : goal.status_in-requires
status_in-requires c = cells_of c.args.state.phase (shared_book (state_in c.args.state) c.args.columns) c.in_ok-s.ensures.1

pub returns : goal.returns
returns c =
    let a = c.args in
    let b = shared_book (state_in a.state) a.columns in
    status_told a.state.phase b a.issue a.k c.in_ok-s.ensures.1 (told_answer c.status_in.result)
    (rw c.in_ok-s.ensures.0 at c.status_in.ensures (dealt_today b))
