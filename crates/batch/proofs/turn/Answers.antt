-- What is told is the call's: so are the words of its records, and they are no more than it may write to.
use Rattle.std.proofs.Common.{arith}
use Rattle.columns.specs.Books.{lent_book}
use Rattle.batch.proofs.Batches.{written_fits}
use Rattle.batch.proofs.Stepping.{stepped}
use Rattle.batch.proofs.turn.Goals as goal

pub words_written-written-requires : goal.words_written-written-requires
words_written-written-requires c =
    let a = c.args in
    let g = c.answer-answer.ensures.given in
    let fits = written_fits (lent_book a.s a.columns.now) a.x a.words.now a.out.now in
    rw g.count (omega (arith, rw (← g.out) at fits, c.answer-answer.auto.out))

pub returns-clause-done : goal.returns-clause-done
returns-clause-done c =
    let a = c.args in
    let h = c.requires.1 in
    rw c.state_after-state.ensures
    (stepped a.words.now a.x (lent_book a.s a.columns.now) _ c.answer-answer.result a.answers.now _ a.out.now _ _
    (record { lengths = h.lengths; sound = h.sound }) c.answer-answer.ensures.given c.tell.ensures c.words_written-written.ensures)
