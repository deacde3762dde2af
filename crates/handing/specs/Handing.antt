-- What handing over units may assume, and what it does.
use Rattle.std.specs.Prelude.{◌≡◌, List, map, ℕ, ◌+◌, ◌-◌, ◌*◌, ◌≤◌, ◌<◌, length, take, drop}
use Rattle.rules.specs.Units.{AccountLots}
use Rattle.rules.specs.Handover.{covered}
use Rattle.rules.specs.Records.{Rec, handover}
use Rattle.runs.specs.Runs.{units_of_words}
use Rattle.handing.specs.declared.NextUnits.{NextUnits}

-- `count` units from unit c on can be handed over in this output
pub record CanHand (runs : List ℕ) (i c count : ℕ) (out : List ℕ) : Type 0 where
  pub issue : i < 16
  pub there : count ≤ length (drop c (units_of_words runs))
  pub room : 2 * count ≤ length out

-- the records of the first `count` units
abbrev pub hand_records : ℕ → ℕ → List AccountLots → List Rec
hand_records i count us = map (handover i) (take count us)

-- no more runs than an issue has, and totals that fit a word
pub record CanCount (runs : List ℕ) (d x : ℕ) : Type 0 where
  pub few : length runs ≤ 144
  pub small : d + x < 4294967296

-- the units that x more lots cover
pub record NewlyCovered (us : List AccountLots) (d x : ℕ) (r : NextUnits) : Type 0 where
  pub first : r.first ≡ covered us d
  pub number : r.number ≡ covered us (d + x) - covered us d
