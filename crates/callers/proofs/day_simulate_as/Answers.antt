-- The operator is answered as without a caller, any other by the number of its refusal.
use Rattle.std.proofs.Common.{◌∙◌, sym, ap, Bool}
use Rattle.rules.specs.declared.State.{State}
use Rattle.rules.specs.Questions.{first_no}
use Rattle.columns.specs.Books.{shared_book}
use Rattle.desks.specs.Simulation.{simulation_asks}
use Rattle.host.specs.States.{state_in, sound_at}
use Rattle.callers.specs.Callers.{early_number}
use Rattle.callers.proofs.ByCaller.{operator_simulated}
use Rattle.callers.proofs.AskingBy.{simulation_without}
use Rattle.callers.proofs.day_simulate_as.Goals as goal

pub returns-then-is_operator : goal.returns-then-is_operator
returns-then-is_operator c =
    let a = c.args in
    c.day_simulate.ensures
    ∙ operator_simulated a.w a.state.phase (shared_book (state_in a.state) a.columns) (sym c.is_operator.ensures ∙ c.if-is_operator.true) a.settles.now a.inventories.now a.size

pub returns : goal.returns
returns c =
    let a = c.args in
    simulation_without a.w (sym c.is_operator.ensures ∙ c.if-is_operator.false) a.state.phase (shared_book (state_in a.state) a.columns) a.settles.now a.inventories.now a.size _
    (c.number.ensures ∙ c.early-no.ensures
    ∙ ap early_number
    (c.simulation_asks.ensures
    ∙ ap (λ (x : Bool). first_no (simulation_asks x a.settles.now a.inventories.now a.size))
    (c.sound_at-good.ensures ∙ ap (λ (t : State). sound_at a.state.phase (shared_book t a.columns)) c.state_in-s.ensures)))
