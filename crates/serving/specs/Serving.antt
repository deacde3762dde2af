-- What serving an issue's units may assume, and what it does.
use Rattle.std.specs.Prelude.{◌≡◌, Bool, List, map, ℕ, ◌+◌, ◌*◌, ◌≤◌, ◌<◌, length, ℤ}
use Rattle.rules.specs.Units.{AccountLots}
use Rattle.rules.specs.Handover.{handovers}
use Rattle.rules.specs.Book.{order_in}
use Rattle.rules.specs.Records.{handover, words, over}
use Rattle.runs.specs.Runs.{CanOrder}

-- the most units that one delivery hands over
abbrev pub most_handed : ℕ
most_handed = 264

-- an issue of which d lots are delivered, and x more can be
pub record CanServe (new : Bool) (nets : List ℤ) (lifts : List ℕ) (i d x : ℕ) (out : List ℕ) : Type 0 where
  pub order : CanOrder nets lifts i
  pub small : d + x < 4294967296
  pub few : length (handovers (order_in new nets lifts i) d x) ≤ most_handed
  pub room : 2 * most_handed ≤ length out

-- the records of the units that x more lots hand over stand in front of the output
pub record Served (us : List AccountLots) (i d x : ℕ) (before after : List ℕ) (r : ℕ) : Type 0 where
  pub count : r ≡ length (map (handover i) (handovers us d x))
  pub output : after ≡ over (words (map (handover i) (handovers us d x))) before
