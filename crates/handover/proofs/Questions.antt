-- The unit question's answers: each refusal, and the unit that is found.
use mathlib.Core.Path.{◌≡◌, sym, ap, ◌∙◌}
use mathlib.Core.Bool.{false}
use mathlib.Core.List.{List}
use Prim.Native.Nat.{ℕ}
use lib.ListN.{take, drop}
use lib.IntN.{ℤ}
use Rattle.rules.specs.Units.{AccountLots}
use Rattle.rules.specs.Book.{order_in}
use Rattle.handover.specs.declared.Seat.{Seat}
use Rattle.runs.specs.Runs.{found_of, units_in, Prepared}
use Rattle.handover.specs.Walking.{units_from, SeatIs}

-- behind the place in front of unit k is the k-th
module _ (nets : List ℤ) (lifts : List ℕ) (i k : ℕ) (runs : List ℕ) (n : ℕ) (s : Seat) (p : Prepared nets lifts i runs n) (q : SeatIs k s) where
  pub found_is : (us : List AccountLots) → units_from (take n runs) s ≡ us → found_of us ≡ found_of (drop k (order_in false nets lifts i))
  unfolding units_in
  found_is us e = ap found_of (sym e ∙ q (take n runs) ∙ ap (drop k) p.units)
