-- The questions in order, and then the simulation.
use Rattle.std.proofs.Common.{◌≡◌, ◌∙◌, refl, sym, ap, arith, ℕ}
use Rattle.rules.specs.declared.Book.{Book}
use Rattle.rules.specs.Refusals.{number_of}
use Rattle.rules.specs.Questions.{first_no}
use Rattle.columns.specs.Books.{shared_book}
use Rattle.laws.proofs.Refused.{above_0}
use Rattle.desks.specs.Simulation.{simulation_asks}
use Rattle.simulation.proofs.Shown.{accepted}
use Rattle.sizes.proofs.Answers.{can_simulate, refused_is, done_is}
use Rattle.host.specs.States.{state_in, sound_at}
use Rattle.host.proofs.Holding.{sound_book, sound_lengths}
use Rattle.host.proofs.Asking.{simulated_at}
use Rattle.host.proofs.questions.day_simulate.Goals as goal
use Rattle.host.proofs.questions.day_simulate.Goals.{After-simulation_asks}

-- the number of the first 'no' of the book
asked : (c : After-simulation_asks) (b : Book) (n : ℕ) → c.sound_at-good.result ≡ sound_at c.args.state.phase b →
    n ≡ first_no (simulation_asks c.sound_at-good.result c.args.settles.now c.args.inventories.now c.args.size) →
    n ≡ first_no (simulation_asks (sound_at c.args.state.phase b) c.args.settles.now c.args.inventories.now c.args.size)
asked c b n g e = e ∙ ap (λ x. first_no (simulation_asks x c.args.settles.now c.args.inventories.now c.args.size)) g

pub returns-in-Err : goal.returns-in-Err
returns-in-Err c =
    let a = c.args in
    let i = (goal.at.returns-in-Err c).After-simulation_asks in
    let b = shared_book (state_in a.state) a.columns in
    rw c.number.ensures
    (refused_is (sound_at a.state.phase b) b.nets a.settles.now a.inventories.now a.size (number_of c.in-Err.r)
    (asked i b _ (rw c.state_in-s.ensures at c.sound_at-good.ensures) c.in-Err.ensures)
    (λ z. let o = above_0 c.in-Err.r in omega (arith, o, z))
    ∙ simulated_at a.state.phase b a.settles.now a.inventories.now a.size)

pub simulate-t-requires : goal.simulate-t-requires
simulate-t-requires c =
    let a = c.args in
    let i = (goal.at.simulate-t-requires c).After-simulation_asks in
    let b = shared_book (state_in a.state) a.columns in
    let none = asked i b 0 (rw c.state_in-s.ensures at c.sound_at-good.ensures) c.in_default.ensures in
    let g = (accepted (sound_at a.state.phase b) a.settles.now a.inventories.now a.size (sym none)).sound in
    can_simulate b a.settles.now a.inventories.now a.size (sound_at a.state.phase b) _ (sound_lengths a.state.phase b g).cells.nets
    (sound_book a.state.phase b g) none refl

pub returns : goal.returns
returns c =
    let a = c.args in
    let i = (goal.at.returns c).After-simulation_asks in
    let b = shared_book (state_in a.state) a.columns in
    done_is (sound_at a.state.phase b) b.nets a.settles.now a.inventories.now a.size _ _ _
    (asked i b 0 (rw c.state_in-s.ensures at c.sound_at-good.ensures) c.in_default.ensures)
    c.simulate-t.ensures
    ∙ simulated_at a.state.phase b a.settles.now a.inventories.now a.size
