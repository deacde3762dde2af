-- Along the units that words stand for: the unit behind a place, and what a total covers.
use Rattle.std.specs.Prelude.{◌≡◌, List, [], ◌∷◌, map, ℕ, ◌≤◌, ◌<◌, drop, Option, Some, None}
use Rattle.rules.specs.declared.Unit.{Unit}
use Rattle.rules.specs.Measures.{unit_lots}
use Rattle.rules.specs.Units.{AccountLots, account_lots}
use Rattle.rules.specs.Handover.{covered, stock}
use Rattle.handover.specs.declared.Seat.{Seat}
use Rattle.handover.specs.declared.Handed.{Handed}
use Rattle.runs.specs.Runs.{part_of, units_of_runs, units_of_words}

-- the units behind a place
unfoldable pub units_from : List ℕ → Seat → List AccountLots
units_from runs s = drop s.passed (units_of_runs (drop s.run (map part_of runs)))

-- the place in front of unit k, whatever holds the units
abbrev pub SeatIs : ℕ → Seat → Type 0
SeatIs k s = (runs : List ℕ) → units_from runs s ≡ drop k (units_of_words runs)

-- the list that a step stands for: the unit handed out, and those behind it
abbrev pub units_of : List ℕ → Option (Unit × Seat) → List AccountLots
units_of runs (Some p) = account_lots p.0.account p.0.lots ∷ units_from runs p.1
units_of runs None = []

abbrev pub UnitInRange : Option (Unit × Seat) → Type 0
UnitInRange (Some p) = (p.0.account < 64) × (p.0.lots ≤ unit_lots)
UnitInRange None = 0 ≤ 0

pub record NextIs (runs : List ℕ) (s : Seat) (r : Option (Unit × Seat)) : Type 0 where
  pub list : units_from runs s ≡ units_of runs r
  pub range : UnitInRange r

-- how many of these units a total covers, and the stock
pub record HandedIs (us : List AccountLots) (d : ℕ) (r : Handed) : Type 0 where
  pub covers : r.count ≡ covered us d
  pub left : r.stock ≡ stock us d
