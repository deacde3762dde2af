-- Round after round, from the opening to the end.
use Rattle.std.specs.Prelude.{◌≡◌, true, List, map, ℕ, suc, ◌+◌, ◌*◌, ◌≤◌, ◌<◌, length, get_or, ℤ, pos}
use Rattle.rules.specs.Measures.{Every, most_lots, sum, owed_of}
use Rattle.rules.specs.Fails.{undelivered}
use Rattle.rules.specs.Book.{all, within_size}
use Rattle.book.specs.Cells.{OwedCells}
use Rattle.desks.specs.Desk.{plan, desk, Ended, ended, owed_of_each}
use Rattle.simulation.specs.Repeated.{left, ending, later}
use Rattle.rounds.specs.Turns.{CanRound}

-- a round, and as many more as deliver the same: how many deliveries it made, how many more such rounds there were
pub record Stepped (nets : List ℤ) (settles runs counts : List ℕ) (size : ℕ) (delivered delivered' inventories inventories' : List ℕ) (made leapt : ℕ) : Type 0 where
  pub can : CanRound nets settles runs counts size delivered' inventories'
  pub few : made ≤ 1024
  pub most : leapt ≤ 20000000
  pub last : made ≡ 0 → (m : ℕ) → ending (plan nets settles size) (desk delivered inventories m) ≡ ended (desk delivered' inventories' m) 1
  pub more : 0 < made → (m : ℕ) →
      ending (plan nets settles size) (desk delivered inventories m)
      ≡ later (suc leapt) (ending (plan nets settles size) (desk delivered' inventories' (m + made + leapt * made)))
  pub falls :
      left (plan nets settles size) (desk delivered' inventories' 0) + (made + leapt * made) ≤ left (plan nets settles size) (desk delivered inventories 0)

-- a desk that can go on, with few lots still owed
pub record CanEnd (nets : List ℤ) (settles runs counts : List ℕ) (size : ℕ) (delivered inventories : List ℕ) : Type 0 where
  pub can : CanRound nets settles runs counts size delivered inventories
  pub few : left (plan nets settles size) (desk delivered inventories 0) < 1000000000000

-- the desk at its end: deliveries and rounds
pub record EndIs (nets : List ℤ) (settles : List ℕ) (size : ℕ) (delivered delivered' inventories inventories' : List ℕ) (deliveries rounds : ℕ) : Type 0 where
  pub desk : ending (plan nets settles size) (desk delivered inventories 0) ≡ ended (desk delivered' inventories' deliveries) rounds
  pub cells : OwedCells nets delivered'

-- an issue's nets and delivered lots, whose missing lots can be summed
pub record CanSum (net : List ℤ) (delivered : List ℕ) : Type 0 where
  pub accounts : length net ≡ 64
  pub both : length delivered ≡ length net
  pub most : (a : ℕ) → get_or delivered a 0 ≤ owed_of (get_or net a (pos 0))
  pub small : sum (undelivered (map owed_of net) delivered) < 4294967296

pub record CanSumEach (nets : List ℤ) (delivered owed : List ℕ) : Type 0 where
  pub cells : OwedCells nets delivered
  pub room : length owed ≡ 16

-- nets of a sound book, 64 settlement accounts, 256 inventories and a size that are not refused
pub record CanSimulate (nets : List ℤ) (settles inventories : List ℕ) (size : ℕ) (owed : List ℕ) : Type 0 where
  pub cells : length nets ≡ 1024
  pub sized : all (within_size most_lots) nets ≡ true
  pub accounts : length settles ≡ 64
  pub settled : (a : ℕ) → get_or settles a 0 < 16
  pub stocks : length inventories ≡ 256
  pub held : Every (λ x. x ≤ most_lots) inventories
  pub some : 1 ≤ size
  pub room : length owed ≡ 16

-- the definition's deliveries, rounds and lots still owed
pub record SimulatedIs (nets : List ℤ) (e : Ended) (deliveries rounds : ℕ) (owed : List ℕ) : Type 0 where
  pub made : deliveries ≡ e.desk.made
  pub number : rounds ≡ e.rounds
  pub each : owed ≡ owed_of_each nets e.desk.delivered
