-- The operator's status and simulation are those without a caller.
use mathlib.Core.Path.{◌≡◌, ap}
use mathlib.Core.Bool.{true}
use mathlib.Core.List.{List, ◌∷◌}
use Prim.Native.Nat.{ℕ}
use Rattle.rules.specs.declared.Book.{Book}
use Rattle.rules.specs.declared.Caller.{Caller}
use Rattle.rules.specs.Book.{delivered_total, order_of, sound}
use Rattle.rules.specs.Questions.{ask_sound}
use Rattle.rules.specs.Access.{is_operator}
use Rattle.laws.proofs.Rights.{passes_if}
use Rattle.told.specs.Status.{status_asks, status_answer, status, reason}
use Rattle.desks.specs.Desk.{plan, simulated}
use Rattle.desks.specs.Simulation.{simulation_asks, tried_answer, outcome, simulation_where, simulation}
use Rattle.secrecy.specs.Requests.{status_by, simulation_by}

module _ (w : Caller) (h : is_operator w ≡ true) where
  pub operator_status : (b : Book) (i k : ℕ) → status_by w b i k ≡ status b i k
  unfolding status_by status
  operator_status b i k =
      ap (λ n. status_answer n (reason b.state.phase (order_of b i) (delivered_total b.delivered i) k))
      (passes_if (is_operator w) (ask_sound b ∷ status_asks b.state.phase (order_of b) i k) h)

  pub operator_simulation : (b : Book) (settles inventories : List ℕ) (size : ℕ) →
      simulation_by w b settles inventories size ≡ simulation b settles inventories size
  unfolding simulation_by simulation_where
  operator_simulation b settles inventories size =
      ap (λ n. tried_answer n (outcome (plan b.nets settles size) (simulated (plan b.nets settles size) inventories)))
      (passes_if (is_operator w) (simulation_asks (sound b) settles inventories size) h)
