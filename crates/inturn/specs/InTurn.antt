-- Full units dealt in turn, out of runs in the order without lifts.
use Rattle.std.specs.Prelude.{◌≡◌, List, ◌∷◌, ◌++◌, map, ℕ, suc, ◌+◌, ◌-◌, ◌/◌, ◌≤◌, ◌<◌, length, drop, get_or}
use Rattle.rules.specs.Measures.{unit_lots}
use Rattle.rules.specs.Units.{AccountLots, account_lots}
use Rattle.rules.specs.Dealt.{round, rounds}
use Rattle.inturn.specs.declared.Deal.{Deal}
use Rattle.inturn.specs.declared.Dealt.{Dealt}
use Rattle.runs.specs.Runs.{part_of, runs_in}

-- of n runs none has more full units than one before it
pub record Falling (runs : List ℕ) (n : ℕ) : Type 0 where
  pub there : n ≤ length runs
  pub falls : (i j : ℕ) → i ≤ j → j < n → get_or runs j 0 / 6400000 ≤ get_or runs i 0 / 6400000

abbrev pub full_unit : AccountLots → AccountLots
full_unit u = account_lots u.account unit_lots

-- the first w of n runs take part in round r, and nobody else does in it or later
pub record Narrowed (runs : List ℕ) (n r w : ℕ) : Type 0 where
  pub few : w ≤ n
  pub rest : (s : ℕ) → r ≤ s → round unit_lots s (runs_in runs n) ≡ round unit_lots s (runs_in runs w)
  pub all : round unit_lots r (runs_in runs w) ≡ map full_unit (runs_in runs w)
  pub some : 0 < w → r < get_or runs (w - 1) 0 / 6400000

-- no account has more full units
abbrev pub most_rounds : ℕ
most_rounds = 200

-- n runs in the order without lifts, m of them of full units
pub record CanDeal (runs : List ℕ) (n m : ℕ) : Type 0 where
  pub falling : Falling runs m
  pub held : n ≤ length runs
  pub few : n ≤ 128
  pub fulls : m ≤ n
  pub small : (j : ℕ) → j < m → get_or runs j 0 / 6400000 ≤ most_rounds

abbrev pub smalls_of : List ℕ → ℕ → ℕ → List AccountLots
smalls_of runs n m = drop m (runs_in runs n)

-- their units, dealt
unfoldable pub dealt_runs : List ℕ → ℕ → ℕ → List AccountLots
dealt_runs runs n m = rounds unit_lots 0 most_rounds (runs_in runs m) ++ smalls_of runs n m

-- the units behind a place
unfoldable pub dealt_from : List ℕ → ℕ → ℕ → Deal → List AccountLots
dealt_from runs n m d =
    drop d.at (map full_unit (runs_in runs d.wide) ++ (rounds unit_lots (suc d.round) most_rounds (runs_in runs d.wide) ++ smalls_of runs n m))

pub record Seated (runs : List ℕ) (m : ℕ) (d : Deal) : Type 0 where
  pub few : d.wide ≤ m
  pub within : 0 < d.wide → d.at < d.wide
  pub some : 0 < d.wide → d.round < most_rounds

-- the place in front of unit k by numbers: behind the units of whole rounds and so many of its own round
pub record SeatAt (runs : List ℕ) (m k : ℕ) (d : Deal) : Type 0 where
  pub place : k ≡ length (rounds unit_lots 0 d.round (runs_in runs m)) + d.at
  pub narrowed : Narrowed runs m d.round d.wide
  pub most : d.round ≤ most_rounds

pub record CanStep (runs : List ℕ) (n m : ℕ) (d : Deal) : Type 0 where
  pub ready : CanDeal runs n m
  pub seated : Seated runs m d
  pub more : 0 < length (dealt_from runs n m d)

pub record Stepped (runs : List ℕ) (n m : ℕ) (d : Deal) (r : Dealt) : Type 0 where
  pub list : dealt_from runs n m d ≡ part_of r.word ∷ dealt_from runs n m r.next
  pub seated : Seated runs m r.next
