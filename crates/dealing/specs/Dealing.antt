-- Full units dealt in turn, out of runs in the order without lifts; and where units stood before all lifts.
use Rattle.std.specs.Prelude.{◌≡◌, true, cond, List, [], ◌∷◌, map, ℕ, suc, ◌+◌, ◌≤◌, ◌<◌, leb, length, take, drop, get_or, ℤ}
use Rattle.rules.specs.Measures.{Every, unit_lots}
use Rattle.rules.specs.Units.{AccountLots}
use Rattle.rules.specs.Lifts.{Among, lifted}
use Rattle.rules.specs.Book.{places_in, order_in}
use Rattle.dealing.specs.declared.Ranks.{Ranks}
use Rattle.dealing.specs.declared.Ready.{Ready}
use Rattle.runs.specs.Runs.{part_of, runs_in, CanOrder, RankedNets, Prepared}
use Rattle.unlifting.specs.Unlifting.{CanSpan}
use Rattle.inturn.specs.InTurn.{CanDeal, dealt_runs}

-- the dealt units as lifted, by an issue's words of lifts
unfoldable pub lifted_runs : List ℕ → ℕ → ℕ → List ℕ → List AccountLots
lifted_runs runs n m words = lifted (places_in (get_or words 0 0) (drop 2 words)) (dealt_runs runs n m)

pub record CanWindow (runs : List ℕ) (n m : ℕ) (ws : List ℕ) (k : ℕ) (out : List ℕ) : Type 0 where
  pub ready : CanDeal runs n m
  pub words : CanSpan ws
  pub places : Every (Among (length (dealt_runs runs n m))) (places_in (get_or ws 0 0) (drop 2 ws))
  pub there : k + length out ≤ length (dealt_runs runs n m)
  pub few : k + length out < 4294967296

-- how many runs of full units stand in front
abbrev pub full_number : List AccountLots → ℕ
full_number [] = 0
full_number (u ∷ us) = cond (leb unit_lots u.lots) (suc (full_number us)) 0

-- a lent array holds an issue's runs in the order without lifts, so many of them of full units
pub record IsRanked (nets : List ℤ) (i : ℕ) (keys : List ℕ) (r : Ranks) : Type 0 where
  pub order : RankedNets nets i keys r.n
  pub held : r.n ≤ length keys
  pub fulls : r.full ≡ full_number (runs_in keys r.n)

pub record CanReady (nets : List ℤ) (lifts : List ℕ) (i : ℕ) (keys runs : List ℕ) : Type 0 where
  pub order : CanOrder nets lifts i
  pub room : 128 ≤ length keys
  pub wide : 144 ≤ length runs

-- and another the same runs as lifted in the order of old
pub record IsReady (nets : List ℤ) (lifts : List ℕ) (i : ℕ) (keys runs : List ℕ) (r : Ready) : Type 0 where
  pub ranks : IsRanked nets i keys r.ranks
  pub lifted : Prepared nets lifts i runs r.lifted

-- a ranked issue that has as many units from unit k on as there are places lent for
pub record CanDealOut (keys : List ℕ) (p : Ranks) (lifts : List ℕ) (i k : ℕ) (out : List ℕ) : Type 0 where
  pub nets : List ℤ
  pub order : CanOrder nets lifts i
  pub ranked : IsRanked nets i keys p
  pub there : k + length out ≤ length (order_in true nets lifts i)

-- the words put out are its units from unit k on, of whatever nets it was ranked
abbrev pub DealtOut : List ℕ → Ranks → List ℕ → ℕ → ℕ → ℕ → List ℕ → Type 0
DealtOut keys p lifts i k len out =
    (nets : List ℤ) → CanOrder nets lifts i → IsRanked nets i keys p → map part_of out ≡ take len (drop k (order_in true nets lifts i))
