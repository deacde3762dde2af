-- Stretches of what waits, as words, and where each account's stands.
use Rattle.std.specs.Prelude.{◌≡◌, true, false, cond, List, ◌++◌, map, ℕ, suc, ◌-◌, ◌*◌, ◌/◌, ◌≤◌, ◌<◌, min, leb, length, drop, get_or}
use Rattle.rules.specs.Measures.{Every, unit_lots, total}
use Rattle.rules.specs.Units.{AccountLots, account_lots, of_account}
use Rattle.rules.specs.Fails.{is_full_of, stretches}
use Rattle.runs.specs.Runs.{part_of, runs_in, units_of_run, units_of_runs, Plain, PlainIn}

-- the first c words of a lent array are the stretches of these units
abbrev pub StretchesOf : List ℕ → ℕ → List AccountLots → Type 0
StretchesOf out c us = runs_in out c ≡ stretches unit_lots us

-- none of these is full of account a
abbrev pub NoneOf : ℕ → List AccountLots → Type 0
NoneOf a rs = Every (λ v. is_full_of unit_lots a v ≡ false) rs

-- the first that is full of account a stands at place p
pub record FirstOf (a p : ℕ) (out : List ℕ) (c : ℕ) : Type 0 where
  pub below : p < c
  pub before : NoneOf a (runs_in out p)
  pub full : is_full_of unit_lots a (part_of (get_or out p 0)) ≡ true

-- of each account, where its stretch of full units stands: 0 for none, or one more than its place
pub record Indexed (out : List ℕ) (c : ℕ) (at : List ℕ) : Type 0 where
  pub accounts : length at ≡ 64
  pub none : (a : ℕ) → a < 64 → get_or at a 0 ≡ 0 → NoneOf a (runs_in out c)
  pub some : (a p : ℕ) → a < 64 → get_or at a 0 ≡ suc p → FirstOf a p out c

-- an account's lots, and eight full units that are taken off again
abbrev pub most_fed : ℕ
most_fed = 20800000

-- units whose stretches are few enough for a lent array, and the lots of each account for a word
pub record Fits (us : List AccountLots) : Type 0 where
  pub few : length (stretches unit_lots us) ≤ 128
  pub small : (a : ℕ) → total (of_account a) us ≤ most_fed

-- the stretches of some units, to which others may be added
pub record Room (out : List ℕ) (c : ℕ) (at : List ℕ) (more : List AccountLots) : Type 0 where
  pub whole : length out ≡ 144
  pub index : Indexed out c at
  pub units : List AccountLots
  pub list : StretchesOf out c units
  pub fits : Fits (units ++ more)

-- and those of these units and others behind them
pub record Joined (before after : List ℕ) (c : ℕ) (at : List ℕ) (more : List AccountLots) (r : ℕ) : Type 0 where
  pub list : (us : List AccountLots) → StretchesOf before c us → StretchesOf after r (us ++ more)
  pub index : Indexed after r at

-- one run
pub record CanAdd (out : List ℕ) (c : ℕ) (at : List ℕ) (word : ℕ) : Type 0 where
  pub room : Room out c at (units_of_run (part_of word))
  pub plain : Plain (part_of word)

abbrev pub Added : List ℕ → List ℕ → ℕ → List ℕ → ℕ → ℕ → Type 0
Added before after c at word r = Joined before after c at (units_of_run (part_of word)) r

-- what a run has of n rounds from round r on; a small unit is left as it is
abbrev pub share_of : ℕ → ℕ → AccountLots → AccountLots
share_of r n u = cond (leb unit_lots u.lots) (account_lots u.account (min n (u.lots / unit_lots - r) * unit_lots)) u

-- the units that runs from x to y have of them
unfoldable pub shares_in : List ℕ → ℕ → ℕ → ℕ → ℕ → List AccountLots
shares_in runs x y r n = units_of_runs (map (share_of r n) (drop x (runs_in runs y)))

pub record CanFeed (runs : List ℕ) (x y r n : ℕ) (out : List ℕ) (c : ℕ) (at : List ℕ) : Type 0 where
  pub there : y ≤ length runs
  pub plain : PlainIn runs y
  pub room : Room out c at (shares_in runs x y r n)

abbrev pub Fed : List ℕ → ℕ → ℕ → ℕ → ℕ → List ℕ → List ℕ → ℕ → List ℕ → ℕ → Type 0
Fed runs x y r n before after c at k = Joined before after c at (shares_in runs x y r n) k
