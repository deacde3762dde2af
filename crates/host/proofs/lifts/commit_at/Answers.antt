-- Questions 1 and 2, and then the commit in place.
use Rattle.std.proofs.lemmas.Result.{err_from_is_err_and}
use Rattle.host.specs.States.{state_in}
use Rattle.host.specs.Lifts.{lifting_book}
use Rattle.host.proofs.Holding.{cells_of}
use Rattle.host.proofs.Lifting.{commit_short, commit_unsound, committed}
use Rattle.host.proofs.lifts.commit_at.Goals as goal

pub returns-then-out-lt-OUTPUT_WORDS : goal.returns-then-out-lt-OUTPUT_WORDS
returns-then-out-lt-OUTPUT_WORDS c =
    let a = c.args in
    commit_short a.state.phase (lifting_book (state_in a.state) a.columns a.lifts.now) a.t a.out.now c.if-out-lt-OUTPUT_WORDS.true

pub returns-in_err-s : goal.returns-in_err-s
returns-in_err-s c =
    let a = c.args in
    let p = err_from_is_err_and c.from_residual.result c.from_residual.ensures.1 in
    rw (p.1, p.2, c.in_err-s.ensures.0)
    (commit_unsound a.state.phase (lifting_book (state_in a.state) a.columns a.lifts.now) a.t a.out.now c.if-out-lt-OUTPUT_WORDS.false
    (rw (c.beside.ensures (state_in a.state)) at c.in_err-s.ensures.1))

pub commit_in-requires : goal.commit_in-requires
commit_in-requires c =
    let a = c.args in (
      cells_of a.state.phase (lifting_book (state_in a.state) a.columns a.lifts.now) (rw (c.beside.ensures (state_in a.state)) at c.in_ok-s.ensures.1),
      c.if-out-lt-OUTPUT_WORDS.false,
    )

pub returns : goal.returns
returns c =
    let a = c.args in
    committed a.state.phase (lifting_book (state_in a.state) a.columns a.lifts.now) a.t a.out.now c.if-out-lt-OUTPUT_WORDS.false _ _ _
    (rw (c.beside.ensures (state_in a.state)) at c.in_ok-s.ensures.1) (rw c.in_ok-s.ensures.0 at c.dealt_today-dealt.ensures) c.commit_in.result
    (rw c.in_ok-s.ensures.0 at c.commit_in.ensures)
