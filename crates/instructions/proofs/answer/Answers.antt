-- The quotes are those of the words, and what stands in the output changes nothing: so the answer is the run's.
use Rattle.columns.specs.Books.{lent_book}
use Rattle.rules.specs.Run.{call_of}
use Rattle.laws.proofs.Answers.{has_room}
use Rattle.instructions.proofs.Answered.{run_answer}
use Rattle.instructions.proofs.answer.Goals as goal

pub answer-requires : goal.answer-requires
answer-requires c =
    let r = c.requires.1 in
    (record { lengths = r.lengths; sound = r.sound }, has_room (call_of c.args.x c.quotes_of.new.quotes) c.args.out.now r.room)

pub returns-clause-done : goal.returns-clause-done
returns-clause-done c =
    let a = c.args in
    let r = c.requires.1 in
    run_answer (lent_book a.s a.columns.now) _ c.answer.result a.words.now a.x (record { lengths = r.lengths; sound = r.sound }) _ a.out.now _
    c.quotes_of.ensures r.room c.answer.ensures.answered

pub returns-clause-given : goal.returns-clause-given
returns-clause-given c = rw c.quotes_of.ensures at c.answer.ensures.answered
