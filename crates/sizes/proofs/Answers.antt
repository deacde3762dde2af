-- The questions, and the answer in plain numbers.
use mathlib.Core.Path.{◌≡◌, refl, sym, ap, ◌∙◌}
use mathlib.Core.Bool.{Bool, true}
use mathlib.Core.List.{List}
use Prim.Native.Nat.{ℕ, zero, suc}
use lib.ListN.{length, replicate}
use lib.IntN.{ℤ}
use Rattle.rules.specs.declared.Book.{Book}
use Rattle.rules.specs.Book.{sound}
use Rattle.rules.specs.Questions.{first_no}
use Rattle.runs.proofs.Cells.{nets_sized}
use Rattle.desks.specs.Desk.{plan, simulated}
use Rattle.simulation.proofs.Shown.{accepted}
use Rattle.desks.specs.Simulation.{Tried, tried, outcome, refused, tried_answer, simulation_asks, simulation_where}
use Rattle.sizes.specs.Steps.{CanSimulate, SimulatedIs}

-- Nothing is refused

-- a book with columns of its lengths can be simulated
pub can_simulate : (b : Book) (ss vs : List ℕ) (size : ℕ) (good : Bool) (owed : List ℕ) → length b.nets ≡ 1024 → sound b ≡ true →
    0 ≡ first_no (simulation_asks good ss vs size) → length owed ≡ 16 → CanSimulate b.nets ss vs size owed
can_simulate b ss vs size good owed cells s e room =
    let c = accepted good ss vs size (sym e) in
    record {
      cells = cells;
      sized = nets_sized b s;
      accounts = c.accounts;
      settled = c.settled;
      stocks = c.stocks;
      held = c.held;
      some = c.some;
      room = room;
    }

-- The answer

answer_refused : (k : ℕ) (t : Tried) → (k ≡ 0 → ⊥) → refused k ≡ tried_answer k t
answer_refused zero t ne = absurd (ne refl)
answer_refused (suc k) t ne = refl

module _ (good : Bool) (nets : List ℤ) (ss vs : List ℕ) (size : ℕ) where
  pub refused_is : (n : ℕ) → n ≡ first_no (simulation_asks good ss vs size) → (n ≡ 0 → ⊥) → tried n 0 0 (replicate 16 0) ≡ simulation_where good nets ss vs size
  unfolding simulation_where
  refused_is n e ne =
      ap refused e
      ∙ answer_refused (first_no (simulation_asks good ss vs size)) (outcome (plan nets ss size) (simulated (plan nets ss size) vs)) (λ q. ne (e ∙ q))

  pub done_is : (dl rn : ℕ) (out : List ℕ) → 0 ≡ first_no (simulation_asks good ss vs size) → SimulatedIs nets (simulated (plan nets ss size) vs) dl rn out →
      tried 0 dl rn out ≡ simulation_where good nets ss vs size
  unfolding simulation_where
  done_is dl rn out e g =
      let r = simulated (plan nets ss size) vs in
      ap (λ m. tried 0 m rn out) g.made ∙ ap (λ m. tried 0 r.desk.made m out) g.number ∙ ap (λ l. tried 0 r.desk.made r.rounds l) g.each
      ∙ ap (λ k. tried_answer k (outcome (plan nets ss size) r)) e
