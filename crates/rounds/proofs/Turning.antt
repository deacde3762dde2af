-- A turn, from its parts.
use mathlib.Core.Path.{◌≡◌, refl, sym, ap, ◌∙◌}
use mathlib.Core.Bool.{false}
use mathlib.Core.List.{List, map}
use Prim.Native.Nat.{ℕ, suc, ◌+◌, ◌-◌, ◌*◌, ◌<◌}
use native.Mathlib.Omega.{arith}
use native.Mathlib.Nat.{add-zero}
use lib.Dec.{eqb}
use lib.ListN.{length, get_or, set, length-set}
use lib.IntN.{ℤ}
use Rattle.rules.specs.Units.{units}
use Rattle.rules.specs.Handover.{handovers}
use Rattle.rules.specs.Book.{delivered_total, dues_of}
use Rattle.runs.specs.Runs.{part_of}
use Rattle.desks.specs.Desk.{plan, desk, amount, joined, delivers}
use Rattle.ranking.specs.Runs.{units_of_runs}
use Rattle.joining.specs.Runs.{joined_runs}
use Rattle.rounds.specs.Turns.{amount_in, CanTurn, Delivered, Turned}
use Rattle.simulation.proofs.Stops.{turn_none, turn_some}
use Rattle.simulation.proofs.Leaps.{desk_same}
use Rattle.rounds.proofs.Joins.{joined_runs_lem}

amount_in_lem : (nets : List ℤ) (settles : List ℕ) (size a i : ℕ) (d v : List ℕ) (m : ℕ) →
    amount (plan nets settles size) (desk d v m) a i ≡ amount_in nets settles d v a i
unfolding amount
amount_in_lem nets settles size a i d v m = refl

pub turned_none : (nets : List ℤ) (settles : List ℕ) (size a i : ℕ) (d v : List ℕ) → amount_in nets settles d v a i ≡ 0 →
    Turned nets settles size a i d d v v 0
turned_none nets settles size a i d v e =
    record {
      one = omega arith;
      desk = λ m.
          ap (desk d v) (add-zero m)
          ∙ sym (turn_none (plan nets settles size) a i (desk d v m) (amount_in_lem nets settles size a i d v m ∙ e));
    }

handed_runs : (nets : List ℤ) (settles : List ℕ) (size i : ℕ) (runs : List ℕ) (t x : ℕ) (v : List ℕ) → 0 < size → i < 16 →
    ((b : ℕ) → get_or settles b 0 < 16) → length v ≡ 256 → units_of_runs size (map part_of runs) ≡ units size (dues_of nets i) →
    joined_runs settles size i (map part_of runs) t (t + x) v ≡ joined (plan nets settles size) i (handovers (units size (dues_of nets i)) t x) v
unfolding handovers
handed_runs nets settles size i runs t x v p hi st l u =
    sym (joined_runs_lem (plan nets settles size) i (map part_of runs) t (t + x) v p (omega arith) hi st l)
    ∙ ap (λ us. joined (plan nets settles size) i (handovers us t x) v) u

pub turned_some : (nets : List ℤ) (settles runs : List ℕ) (size a i : ℕ) (d d' v v' : List ℕ) (x : ℕ) → CanTurn nets settles runs size a i d v →
    x ≡ amount_in nets settles d v a i → eqb x 0 ≡ false → Delivered settles runs size a i x d d' v v' → Turned nets settles size a i d d' v v' 1
unfolding delivers
turned_some nets settles runs size a i d d' v v' x c e ne g =
    record {
      one = omega arith;
      desk = λ m.
          let p = plan nets settles size in
          let q = amount_in_lem nets settles size a i d v m ∙ sym e in
          let k = i * 16 + get_or settles a 0 in
          let w = set v k (get_or v k 0 - x) in
          let s : m + 1 ≡ suc m = omega arith in
          desk_same g.cells
          (g.stocks
          ∙ handed_runs nets settles size i runs (delivered_total d i) x w c.some c.asks.issue c.asks.settled
          (length-set v k (get_or v k 0 - x) ∙ c.asks.stocks) c.units)
          s
          ∙ sym (turn_some p a i (desk d v m) (ap (λ y. eqb y 0) q ∙ ne) ∙ ap (delivers p (desk d v m) a i) q);
    }
