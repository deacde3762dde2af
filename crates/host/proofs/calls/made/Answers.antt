-- Questions 1 and 2, and then the call in place.
use Rattle.std.proofs.Common.{◌∙◌, refl, sym}
use Rattle.std.proofs.lemmas.Result.{err_from_is_err_and}
use Rattle.columns.specs.Books.{lent_book}
use Rattle.host.specs.States.{state_in}
use Rattle.host.proofs.Holding.{sound_book, sound_lengths}
use Rattle.host.proofs.Calling.{room_of, too_short, unsound, answered}
use Rattle.host.proofs.calls.made.Goals as goal

pub returns-in_err-output_asks-clause-done : goal.returns-in_err-output_asks-clause-done
returns-in_err-output_asks-clause-done c =
    let a = c.args in
    let p = err_from_is_err_and c.from_residual.result c.from_residual.ensures.1 in
    rw (p.1, p.2) (too_short a.state (lent_book (state_in a.state) a.columns.now) a.x a.quotes.now a.out.now refl _ c.in_err-output_asks.ensures)

pub returns-in_err-s-clause-done : goal.returns-in_err-s-clause-done
returns-in_err-s-clause-done c =
    let a = c.args in
    let p = err_from_is_err_and c.from_residual-in_err-s.result c.from_residual-in_err-s.ensures.1 in
    rw (p.1, p.2, c.in_err-s.ensures.0)
    (unsound a.state (lent_book (state_in a.state) a.columns.now) a.x a.quotes.now a.out.now refl
    (sym (room_of a.x a.quotes.now a.out.now) ∙ sym c.in_ok-output_asks.ensures) (rw (c.shared.ensures (state_in a.state)) at c.in_err-s.ensures.1))

pub answer-requires : goal.answer-requires
answer-requires c =
    let a = c.args in
    let b = lent_book (state_in a.state) a.columns.now in
    let g = rw (c.shared.ensures (state_in a.state)) at c.in_ok-s.ensures.1 in
    rw c.in_ok-s.ensures.0 (
      record { lengths = sound_lengths a.state.phase b g; sound = sound_book a.state.phase b g },
      sym (room_of a.x a.quotes.now a.out.now) ∙ sym c.in_ok-output_asks.ensures,
    )

pub returns-clause-done : goal.returns-clause-done
returns-clause-done c =
    let a = c.args in
    answered a.state (lent_book (state_in a.state) a.columns.now) a.x a.quotes.now a.out.now c.answer.new.columns c.answer.result _
    (rw (c.shared.ensures (state_in a.state)) at c.in_ok-s.ensures.1) (rw c.in_ok-s.ensures.0 at c.answer.ensures.answered)
