-- The units of places that stand side by side, dealt in turn and before lifts, behind the stretches of others.
use Rattle.std.specs.Prelude.{◌≡◌, true, List, ℕ, ◌+◌, ◌≤◌, ◌<◌, length, take, drop, get_or, ℤ}
use Rattle.rules.specs.Measures.{Every, unit_lots, most_lots, total}
use Rattle.rules.specs.Units.{AccountLots, of_account}
use Rattle.rules.specs.Fails.{stretches}
use Rattle.rules.specs.Lifts.{Among}
use Rattle.rules.specs.Book.{places_in, order_in}
use Rattle.runs.specs.Runs.{runs_in, PlainIn, CanOrder}
use Rattle.units.specs.Cursor.{Started}
use Rattle.inturn.specs.InTurn.{CanDeal, smalls_of, dealt_runs}
use Rattle.dealing.specs.Dealing.{lifted_runs}
use Rattle.unlifting.specs.Unlifting.{CanSpan}
use Rattle.stretching.specs.declared.Begun.{Begun}
use Rattle.stretching.specs.Adding.{StretchesOf, Room, Joined}

-- runs of an issue in the order without lifts: m of full units, and behind them one for each small unit
pub record Parted (runs : List ℕ) (n m : ℕ) : Type 0 where
  pub ready : CanDeal runs n m
  pub plain : PlainIn runs n
  pub full : Every (λ v. unit_lots ≤ v.lots) (runs_in runs m)
  pub small : Every (λ v. (1 ≤ v.lots) × (v.lots < unit_lots)) (smalls_of runs n m)

-- the units of so many places from one on
unfoldable pub span_in : List ℕ → ℕ → ℕ → ℕ → ℕ → List AccountLots
span_in runs n m base len = take len (drop base (dealt_runs runs n m))

pub record CanFeedSpan (runs : List ℕ) (n m base len : ℕ) (out : List ℕ) (c : ℕ) (at : List ℕ) : Type 0 where
  pub parted : Parted runs n m
  pub there : base + len ≤ length (dealt_runs runs n m)
  pub fits : base + len < 4294967296
  pub room : Room out c at (span_in runs n m base len)

abbrev pub FedSpan : List ℕ → ℕ → ℕ → ℕ → ℕ → List ℕ → List ℕ → ℕ → List ℕ → ℕ → Type 0
FedSpan runs n m base len before after c at k = Joined before after c at (span_in runs n m base len) k

-- what waits from unit k on of so many, dealt in turn and then lifted, and nothing in the lent arrays yet
pub record CanFeedWaiting (runs : List ℕ) (n m : ℕ) (words : List ℕ) (k count : ℕ) (out at : List ℕ) : Type 0 where
  pub parted : Parted runs n m
  pub spans : CanSpan words
  pub places : Every (Among (length (dealt_runs runs n m))) (places_in (get_or words 0 0) (drop 2 words))
  pub all : count ≡ length (dealt_runs runs n m)
  pub some : k ≤ count
  pub most : count < 4294967296
  pub whole : length out ≡ 144
  pub accounts : length at ≡ 64
  pub none : (a : ℕ) → get_or at a 0 ≡ 0
  pub few : length (stretches unit_lots (drop k (lifted_runs runs n m words))) ≤ 128
  pub small : (a : ℕ) → total (of_account a) (drop k (lifted_runs runs n m words)) ≤ most_lots

pub record FedWaiting (runs : List ℕ) (n m : ℕ) (words : List ℕ) (k : ℕ) (out : List ℕ) (r : ℕ) : Type 0 where
  pub there : r ≤ length out
  pub list : StretchesOf out r (drop k (lifted_runs runs n m words))

pub record CanStart (nets : List ℤ) (lifts : List ℕ) (i : ℕ) (out : List ℕ) : Type 0 where
  pub order : CanOrder nets lifts i
  pub whole : length out ≡ 144

-- the position after a delivered total of an issue's units, and the lent array along which the cursor goes
pub record HasStarted (nets : List ℤ) (lifts : List ℕ) (i d : ℕ) (out : List ℕ) (r : Begun) : Type 0 where
  pub there : r.n ≤ length out
  pub started : Started (order_in true nets lifts i) out r.n d r.position
