-- Questions 1 and 2, and then the run.
use Rattle.std.proofs.Common.{◌∙◌, sym}
use Rattle.host.specs.States.{state_in}
use Rattle.host.proofs.Holding.{sound_book, sound_lengths}
use Rattle.columns.specs.Books.{lent_book}
use Rattle.batch.proofs.Batches.{refused_short, refused_unsound, ran}
use Rattle.batch.proofs.day_run.Goals as goal

pub returns-then-not-has_room-clause-ran : goal.returns-then-not-has_room-clause-ran
returns-then-not-has_room-clause-ran c =
    let a = c.args in
    rw (c.refused.ensures, c.number.ensures)
    (refused_short a.state a.columns.now a.words.now a.answers.now a.out.now (sym c.has_room.ensures ∙ c.if-not-has_room.true))

pub run-requires : goal.run-requires
run-requires c =
    let a = c.args in
    let b = lent_book (state_in a.state) a.columns.now in
    let g = rw (c.shared.ensures (state_in a.state)) at c.in-Ok.ensures.1 in
    rw c.in-Ok.ensures.0 (record { lengths = sound_lengths a.state.phase b g; sound = sound_book a.state.phase b g })

pub returns-in-Ok-clause-ran : goal.returns-in-Ok-clause-ran
returns-in-Ok-clause-ran c =
    let a = c.args in
    ran a.state a.columns.now a.words.now a.answers.now a.out.now (sym c.has_room.ensures ∙ c.if-not-has_room.false)
    (rw (c.shared.ensures (state_in a.state)) at c.in-Ok.ensures.1) c.told.result c.run.result c.told.ensures c.run.new.columns _ _
    (rw c.in-Ok.ensures.0 at c.run.ensures.done)

pub returns-in-Err-clause-ran : goal.returns-in-Err-clause-ran
returns-in-Err-clause-ran c =
    let a = c.args in
    rw (c.refused-in-Err.ensures, c.number-in-Err.ensures, c.in-Err.ensures.0)
    (refused_unsound a.state a.columns.now a.words.now a.answers.now a.out.now (sym c.has_room.ensures ∙ c.if-not-has_room.false)
    (rw (c.shared.ensures (state_in a.state)) at c.in-Err.ensures.1))
