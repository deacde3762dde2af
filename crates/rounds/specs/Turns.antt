-- An account's turn, and a full round, on columns.
use Rattle.std.specs.Prelude.{◌≡◌, List, map, ℕ, ◌+◌, ◌-◌, ◌≤◌, ◌<◌, min, length, get_or, set, ℤ}
use Rattle.rules.specs.Measures.{sum, owed_of}
use Rattle.rules.specs.Units.{units}
use Rattle.rules.specs.Handover.{stock}
use Rattle.rules.specs.Book.{block, cell, net_at, delivered_at, delivered_total, dues_of}
use Rattle.book.specs.Cells.{OwedCells}
use Rattle.runs.specs.Runs.{part_of}
use Rattle.desks.specs.Desk.{plan, desk, inventory_at, with_inventory, turn, round}
use Rattle.ranking.specs.Runs.{units_of_runs}
use Rattle.joining.specs.Runs.{joined_runs}
use Rattle.ranking.specs.Orders.{Table}

-- the smaller of the settlement account's inventory and what is still owed, from columns
abbrev pub amount_in : List ℤ → List ℕ → List ℕ → List ℕ → ℕ → ℕ → ℕ
amount_in nets settles delivered inventories a i =
    min (inventory_at inventories i (get_or settles a 0)) (owed_of (net_at nets i a) - delivered_at delivered i a)

-- a desk's columns, and an account's turn in an issue
pub record CanAsk (nets : List ℤ) (settles delivered inventories : List ℕ) (a i : ℕ) : Type 0 where
  pub cells : length nets ≡ 1024
  pub whole : length delivered ≡ 1024
  pub accounts : length settles ≡ 64
  pub settled : (b : ℕ) → get_or settles b 0 < 16
  pub stocks : length inventories ≡ 256
  pub account : a < 64
  pub issue : i < 16

pub record CanDeliver (settles runs : List ℕ) (size a i x : ℕ) (delivered inventories : List ℕ) : Type 0 where
  pub whole : length delivered ≡ 1024
  pub accounts : length settles ≡ 64
  pub settled : (b : ℕ) → get_or settles b 0 < 16
  pub stocks : length inventories ≡ 256
  pub account : a < 64
  pub issue : i < 16
  pub some : 0 < size
  pub fits : delivered_total delivered i + x < 2000000000
  pub covered : x ≤ inventory_at inventories i (get_or settles a 0)
  pub small : (c : ℕ) → get_or inventories c 0 < 2000000000

-- x lots delivered, and what they hand over joined, run by run
pub record Delivered (settles runs : List ℕ) (size a i x : ℕ) (delivered delivered' inventories inventories' : List ℕ) : Type 0 where
  pub cells : delivered' ≡ set delivered (cell i a) (delivered_at delivered i a + x)
  pub stocks :
      inventories'
      ≡ joined_runs settles size i (map part_of runs) (delivered_total delivered i) (delivered_total delivered i + x)
      (with_inventory inventories i (get_or settles a 0) (inventory_at inventories i (get_or settles a 0) - x))

-- the issue's units are those of the runs, and no number of the turn is large
pub record CanTurn (nets : List ℤ) (settles runs : List ℕ) (size a i : ℕ) (delivered inventories : List ℕ) : Type 0 where
  pub asks : CanAsk nets settles delivered inventories a i
  pub some : 0 < size
  pub units : units_of_runs size (map part_of runs) ≡ units size (dues_of nets i)
  pub fits : delivered_total delivered i + (owed_of (net_at nets i a) - delivered_at delivered i a) < 2000000000
  pub small : (c : ℕ) → get_or inventories c 0 < 2000000000

-- an account's turn in an issue: 1 where it delivers
pub record Turned (nets : List ℤ) (settles : List ℕ) (size a i : ℕ) (delivered delivered' inventories inventories' : List ℕ) (r : ℕ) : Type 0 where
  pub one : r ≤ 1
  pub desk : (m : ℕ) → desk delivered' inventories' (m + r) ≡ turn (plan nets settles size) a i (desk delivered inventories m)

-- a desk's columns, with the runs of every issue
pub record CanRound (nets : List ℤ) (settles runs counts : List ℕ) (size : ℕ) (delivered inventories : List ℕ) : Type 0 where
  pub cells : OwedCells nets delivered
  pub accounts : length settles ≡ 64
  pub settled : (b : ℕ) → get_or settles b 0 < 16
  pub stocks : length inventories ≡ 256
  pub some : 0 < size
  pub ranked : Table size nets runs counts
  -- an issue's inventories and the house's stock of it
  pub lots : (i : ℕ) → i < 16 → sum (block 16 i inventories) + stock (units size (dues_of nets i)) (delivered_total delivered i) ≤ 320000000

-- a full round: so many deliveries
pub record Rounded (nets : List ℤ) (settles : List ℕ) (size : ℕ) (delivered delivered' inventories inventories' : List ℕ) (r : ℕ) : Type 0 where
  pub few : r ≤ 1024
  pub desk : (m : ℕ) → desk delivered' inventories' (m + r) ≡ round (plan nets settles size) (desk delivered inventories m)
