-- The units of an issue that wait, as runs, and the stock.
use Rattle.std.specs.Prelude.{◌≡◌, List, ℕ, ◌+◌, ◌-◌, ◌≤◌, length, take, drop}
use Rattle.rules.specs.Units.{AccountLots}
use Rattle.rules.specs.Handover.{covered, stock, waiting}
use Rattle.runs.specs.Runs.{units_of_words}
use Rattle.waiting.specs.declared.Kept.{Kept}

-- the runs kept are in their places
pub record Ready (k : Kept) : Type 0 where
  pub few : k.number ≤ 144
  pub there : k.number ≤ length k.runs
  pub first : k.first ≤ k.number

-- what is kept of some units, of which d lots are delivered
pub record Keeps (us : List AccountLots) (d : ℕ) (k : Kept) : Type 0 where
  pub ready : Ready k
  pub left : k.stock ≡ stock us d
  pub waits : units_of_words (drop k.first (take k.number k.runs)) ≡ waiting us d

-- x more lots: what is kept goes on to what waits after them, and this is the number of units that they hand over
abbrev pub More : Kept → Kept → ℕ → ℕ → Type 0
More before after x n =
    (us : List AccountLots) (d : ℕ) → Keeps us d before → Keeps us (d + x) after × (n ≡ covered us (d + x) - covered us d)
