-- How many rounds more do what a round did: as many as every cell and every issue's units have room for.
use Rattle.std.specs.Prelude.{◌≡◌, List, ℕ, ◌+◌, ◌*◌, ◌≤◌, ◌<◌, length, get_or, ℤ}
use Rattle.rules.specs.Units.{units}
use Rattle.rules.specs.Book.{delivered_total, dues_of}
use Rattle.simulation.specs.Repeated.{AgainFor, OwedFor}
use Rattle.ranking.specs.Orders.{Table}

-- what a round delivered of an issue
pub record CanIssue (size x : ℕ) : Type 0 where
  pub some : 0 < size
  pub small : x < 2000000000

pub record CanOwe (nets : List ℤ) (delivered xs : List ℕ) : Type 0 where
  pub cells : length nets ≡ 1024
  pub both : length delivered ≡ 1024
  pub each : length xs ≡ 1024

pub record CanAdvance (xs : List ℕ) (k : ℕ) (delivered : List ℕ) : Type 0 where
  pub both : length xs ≡ length delivered
  pub fits : (c : ℕ) → get_or delivered c 0 + k * get_or xs c 0 < 4294967296

-- all issues' runs, the delivered lots before a round and after it, and what it delivered
pub record CanLeapAll (nets : List ℤ) (runs counts : List ℕ) (size : ℕ) (before after xs : List ℕ) : Type 0 where
  pub owes : CanOwe nets after xs
  pub whole : length before ≡ 1024
  pub some : 0 < size
  pub ranked : Table size nets runs counts
  pub small_before : (i : ℕ) → i < 16 → delivered_total before i < 2000000000
  pub small_each : (i : ℕ) → i < 16 → delivered_total xs i < 2000000000

-- so many rounds can be leapt
pub record LeapIs (nets : List ℤ) (size : ℕ) (before after xs : List ℕ) (k : ℕ) : Type 0 where
  pub owed : OwedFor nets after xs k
  pub most : k ≤ 20000000
  pub units : (i : ℕ) → i < 16 → AgainFor (units size (dues_of nets i)) (delivered_total before i) (delivered_total xs i) k
