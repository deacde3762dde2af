-- The runs of every issue at any size of units.
use Rattle.std.specs.Prelude.{◌≡◌, true, List, ◌++◌, map, ℕ, ◌-◌, ◌*◌, ◌/◌, ◌%◌, ◌≤◌, ◌<◌, length, get_or, ℤ}
use Rattle.rules.specs.Measures.{most_lots}
use Rattle.rules.specs.Units.{AccountLots, account_lots, by_account, largest_first, units}
use Rattle.rules.specs.Book.{all, block, within_size, dues_of}
use Rattle.runs.specs.Runs.{runs_in, at_least, CanRank}
use Rattle.ranking.specs.Runs.{units_of_runs}

-- what is full of an account's lots, and what is small of them
abbrev pub full_at : ℕ → AccountLots → AccountLots
full_at size u = account_lots u.account (u.lots / size * size)

-- the same of a word, lots * 64 + account
abbrev pub full_word : ℕ → ℕ → ℕ
full_word size k = k - k / 64 % size * 64

abbrev pub small_at : ℕ → ℕ → ℕ
small_at size x = x % size

-- of the accounts with a full unit the full units, largest due first; then the small ones, largest first
unfoldable pub runs_at : ℕ → List ℕ → List AccountLots
runs_at size dues =
    map (full_at size) (largest_first (by_account 0 (map (at_least size) dues)))
    ++ largest_first (by_account 0 (map (small_at size) dues))

pub record CanOrder (size : ℕ) (dues runs : List ℕ) : Type 0 where
  pub ranks : CanRank 128 dues runs
  pub some : 1 ≤ size

-- an issue whose nets can be ranked
pub record CanRankAt (size : ℕ) (nets : List ℤ) (i : ℕ) (runs : List ℕ) : Type 0 where
  pub cells : length nets ≡ 1024
  pub sized : all (within_size most_lots) nets ≡ true
  pub issue : i < 16
  pub some : 1 ≤ size
  pub room : 128 ≤ length runs

-- the lent array holds the issue's units of this size in its first n words
pub record RankedAt (size : ℕ) (nets : List ℤ) (i : ℕ) (runs : List ℕ) (n : ℕ) : Type 0 where
  pub few : n ≤ 128
  pub units : units_of_runs size (runs_in runs n) ≡ units size (dues_of nets i)

pub record CanRankAll (size : ℕ) (nets : List ℤ) (runs counts : List ℕ) : Type 0 where
  pub cells : length nets ≡ 1024
  pub sized : all (within_size most_lots) nets ≡ true
  pub some : 1 ≤ size
  pub table : length runs ≡ 2048
  pub numbers : length counts ≡ 16

-- the runs of issue i stand from word i * 128 on, as many as its number says
abbrev pub RankedIn : ℕ → List ℤ → List ℕ → List ℕ → ℕ → Type 0
RankedIn size nets runs counts i = RankedAt size nets i (block 128 i runs) (get_or counts i 0)

pub record Table (size : ℕ) (nets : List ℤ) (runs counts : List ℕ) : Type 0 where
  pub table : length runs ≡ 2048
  pub numbers : length counts ≡ 16
  pub orders : (i : ℕ) → i < 16 → RankedIn size nets runs counts i
