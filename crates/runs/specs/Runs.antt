-- Runs: parts of one word each that stand for units in unit order.
use Rattle.std.specs.Prelude.{◌≡◌, true, cond, false, List, [], ◌∷◌, ◌++◌, map, ℕ, suc, ◌+◌, ◌*◌, ◌/◌, ◌%◌, ◌≤◌, ◌<◌, min, leb, ltb, length, take, get_or, replicate, ℤ, Option, Some, None}
use Rattle.rules.specs.Measures.{Every, unit_lots, most_lots, total, due_of}
use Rattle.rules.specs.Units.{AccountLots, account_lots, prepend, by_account, largest_first, of_account, units_of_nets}
use Rattle.rules.specs.Ranking.{priority, Pairwise}
use Rattle.rules.specs.Lifts.{Among}
use Rattle.rules.specs.Book.{all, row, within_size, lift_number, lifts_at, order_in}
use Rattle.rules.specs.declared.Priority.{Priority}
use Rattle.rules.specs.declared.Unit.{Unit}

-- a part in one word: lots * 64 + account
abbrev pub part_of : ℕ → AccountLots
part_of k = account_lots (k % 64) (k / 64)

-- the priority of the first unit of an account with so many lots in all
abbrev pub first_priority : AccountLots → Priority
first_priority u = priority unit_lots u.lots (account_lots u.account (min u.lots unit_lots))

-- the first n of a list of such words
abbrev pub runs_in : List ℕ → ℕ → List AccountLots
runs_in runs n = map part_of (take n runs)

-- how many words at the front have more lots
abbrev pub larger : ℕ → List ℕ → ℕ
larger x [] = 0
larger x (k ∷ ks) = cond (ltb x (k / 64)) (suc (larger x ks)) 0

-- the units that a run stands for: full ones, and a small one of the rest if that is not 0
abbrev pub units_of_run : AccountLots → List AccountLots
units_of_run u = replicate (u.lots / unit_lots) (account_lots u.account unit_lots) ++ prepend u.account (u.lots % unit_lots) []

abbrev pub units_of_runs : List AccountLots → List AccountLots
units_of_runs [] = []
units_of_runs (u ∷ us) = units_of_run u ++ units_of_runs us

-- the units that words stand for
abbrev pub units_of_words : List ℕ → List AccountLots
units_of_words runs = units_of_runs (map part_of runs)

-- those that the first n words stand for
unfoldable pub units_in : List ℕ → ℕ → List AccountLots
units_in runs n = units_of_words (take n runs)

-- what is full of a part, and what is small of its lots
abbrev pub full_of : AccountLots → AccountLots
full_of u = account_lots u.account (u.lots / unit_lots * unit_lots)

abbrev pub small_lots : ℕ → ℕ
small_lots x = x % unit_lots

-- lots where they are at least so many
abbrev pub at_least : ℕ → ℕ → ℕ
at_least least x = cond (leb least x) x 0

-- the runs of accounts with these dues: of those with a full unit the full units, largest due first; then the small ones,
-- largest first
unfoldable pub runs_of : List ℕ → List AccountLots
runs_of dues =
    map full_of (largest_first (by_account 0 (map (at_least unit_lots) dues))) ++ largest_first (by_account 0 (map small_lots dues))

-- n keys that are ranked already, largest first, and a key of a lower account
pub record CanInsert (keys : List ℕ) (n key : ℕ) : Type 0 where
  pub room : n < length keys
  pub above : Every (λ v. key % 64 < v.account) (runs_in keys n)
  pub falling : Pairwise (λ u v. v.lots ≤ u.lots) (runs_in keys n)

-- lots of 64 accounts that can be ranked into a lent array of so many words
pub record CanRank (room : ℕ) (lots keys : List ℕ) : Type 0 where
  pub accounts : length lots ≡ 64
  pub held : room ≤ length keys
  pub small : (a : ℕ) → get_or lots a 0 ≤ most_lots

pub record Ranked (lots keys : List ℕ) (n : ℕ) : Type 0 where
  pub few : n ≤ 64
  pub order : runs_in keys n ≡ largest_first (by_account 0 lots)

-- a run of full units, or of one small unit, or of none
abbrev pub Plain : AccountLots → Type 0
Plain u = 100000 ≤ u.lots → u.lots % 100000 ≡ 0

abbrev pub PlainIn : List ℕ → ℕ → Type 0
PlainIn runs n = Every Plain (runs_in runs n)

-- units held in the first n words of a lent array
pub record Held (runs : List ℕ) (n : ℕ) : Type 0 where
  pub few : n ≤ 144
  pub there : n ≤ length runs
  pub plain : PlainIn runs n
  pub small : (a : ℕ) → total (of_account a) (units_in runs n) ≤ most_lots

-- an issue whose nets can be ranked
pub record CanRankNets (nets : List ℤ) (i : ℕ) (runs : List ℕ) : Type 0 where
  pub cells : length nets ≡ 1024
  pub issue : i < 16
  pub size : all (within_size most_lots) nets ≡ true
  pub room : 128 ≤ length runs

-- the lent array holds the issue's units in the order without lifts
pub record RankedNets (nets : List ℤ) (i : ℕ) (keys : List ℕ) (n : ℕ) : Type 0 where
  pub few : n ≤ 128
  pub units : units_in keys n ≡ units_of_nets unit_lots (row i nets)
  pub plain : PlainIn keys n
  pub runs : runs_in keys n ≡ runs_of (map due_of (row i nets))

-- an issue whose units can be ordered, from all nets and lifts
pub record CanOrder (nets : List ℤ) (lifts : List ℕ) (i : ℕ) : Type 0 where
  pub cells : length nets ≡ 1024
  pub lifted : length lifts ≡ 288
  pub issue : i < 16
  pub size : all (within_size most_lots) nets ≡ true
  pub few : lift_number lifts i ≤ 8
  pub places : Every (Among (length (order_in false nets lifts i))) (lifts_at lifts i)

pub record CanPrepare (nets : List ℤ) (lifts : List ℕ) (i : ℕ) (runs : List ℕ) : Type 0 where
  pub order : CanOrder nets lifts i
  pub room : 144 ≤ length runs

-- the lent array holds the units of the issue in the order of the day
pub record Prepared (nets : List ℤ) (lifts : List ℕ) (i : ℕ) (runs : List ℕ) (n : ℕ) : Type 0 where
  pub held : Held runs n
  pub few : n ≤ 128 + 2 * lift_number lifts i
  pub units : units_in runs n ≡ order_in false nets lifts i

-- a unit of these lots of this account, as the code answers it
abbrev pub unit_of : ℕ → ℕ → Unit
unit_of account lots = record { account = account; lots = lots }

-- the first of the units, if there is one
abbrev pub found_of : List AccountLots → Option Unit
found_of [] = None
found_of (u ∷ us) = Some (unit_of u.account u.lots)
