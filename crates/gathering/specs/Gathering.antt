-- Runs after a delivered total: those that wait, and of them each account's full lots at the place of its first full run.
use Rattle.std.specs.Prelude.{◌≡◌, cond, List, [], ◌∷◌, map, ℕ, ◌/◌, ◌≤◌, ◌<◌, leb, eqb, length, drop, get_or}
use Rattle.rules.specs.Measures.{Every, unit_lots, most_lots}
use Rattle.rules.specs.Units.{AccountLots, account_lots}
use Rattle.rules.specs.Handover.{covered, stock, waiting}
use Rattle.rules.specs.Fails.{full_lots}
use Rattle.gathering.specs.declared.Waiting.{Waiting}
use Rattle.runs.specs.Runs.{part_of, units_of_words, Plain}

-- a total taken off runs: how many of their units it covers, the stock, and the runs of those that wait, plain if all were
pub record HandsOn (before after : List ℕ) (d : ℕ) (r : Waiting) : Type 0 where
  pub within : r.run ≤ length after
  pub covers : r.count ≡ covered (units_of_words before) d
  pub left : r.stock ≡ stock (units_of_words before) d
  pub waits : units_of_words (drop r.run after) ≡ waiting (units_of_words before) d
  pub some : r.run < length after → r.stock < get_or after r.run 0 / 64
  pub plain : Every Plain (map part_of before) → Every Plain (map part_of (drop r.run after))

-- a number for each account, with account a's set to 0
abbrev pub spent : (ℕ → ℕ) → ℕ → ℕ → ℕ
spent s a b = cond (eqb b a) 0 (s b)

-- s has what is left of each account's full lots: all of it at its first full run, none at later ones
abbrev pub laid : (ℕ → ℕ) → List AccountLots → List AccountLots
laid s [] = []
laid s (u ∷ us) =
    cond (leb unit_lots u.lots) (account_lots u.account (s u.account) ∷ laid (spent s u.account) us) (u ∷ laid s us)

abbrev pub fulls_of : List ℕ → ℕ → ℕ
fulls_of runs a = full_lots unit_lots a (map part_of runs)

pub record CanGather (runs : List ℕ) : Type 0 where
  pub plain : Every Plain (map part_of runs)
  pub small : (a : ℕ) → fulls_of runs a ≤ most_lots

pub record CanSum (runs full : List ℕ) : Type 0 where
  pub accounts : length full ≡ 64
  pub none : (a : ℕ) → get_or full a 0 ≡ 0
  pub ready : CanGather runs

abbrev pub SumsAre : List ℕ → List ℕ → Type 0
SumsAre runs full = (a : ℕ) → get_or full a 0 ≡ fulls_of runs a

pub record CanSpread (full : List ℕ) : Type 0 where
  pub accounts : length full ≡ 64
  pub small : (a : ℕ) → get_or full a 0 ≤ most_lots
