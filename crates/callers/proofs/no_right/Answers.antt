-- The refusal of a sound book, with the state that is held.
use Rattle.std.proofs.Common.{refl, sym, ap, ◌∙◌}
use Rattle.rules.specs.declared.State.{State}
use Rattle.columns.specs.Books.{shared_book}
use Rattle.access.specs.Refusals.{refusal_of}
use Rattle.host.specs.States.{state_in}
use Rattle.callers.proofs.ByCaller.{right_refused}
use Rattle.callers.proofs.no_right.Goals as goal

pub returns-in-Ok : goal.returns-in-Ok
returns-in-Ok c =
    let a = c.args in
    right_refused a.state.phase (shared_book (state_in a.state) a.columns) a.x a.out.now (sym c.in_default.ensures) (state_in a.state) _
    c.in-Ok.ensures.1 refl refl refl (c.refusal.ensures ∙ ap (λ (t : State). refusal_of t a.x) c.in-Ok.ensures.0)
