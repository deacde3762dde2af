-- Overlaps of shortfalls with what units lack, from a cursor on.
use Rattle.std.specs.Prelude.{◌≡◌, List, [], ◌∷◌, ℕ, ◌-◌, ◌≤◌, ◌<◌, map, length, take, drop, get_or, Option, Some, None}
use Rattle.rules.specs.Measures.{unit_lots, most_lots}
use Rattle.rules.specs.Units.{AccountLots, account_lots, by_account}
use Rattle.rules.specs.Handover.{stock, waiting, first_unit}
use Rattle.rules.specs.Fails.{Fail, fail_of, overlaps, lacks}
use Rattle.units.specs.declared.Cursor.{Cursor}
use Rattle.units.specs.declared.Overlap.{Overlap}
use Rattle.units.specs.declared.Position.{Position}
use Rattle.runs.specs.Runs.{part_of}

-- what is still to be handed out: the rest of a shortfall and the later ones, against the rest of a run and the later ones
abbrev pub overlaps_on : List AccountLots → List ℕ → Cursor → List Fail
overlaps_on us missing c =
    overlaps (account_lots c.from c.short ∷ by_account c.account (drop c.account missing))
    (account_lots c.to c.lack ∷ drop c.run us)

-- the same of the units that words hold
unfoldable pub overlaps_in : List ℕ → List ℕ → Cursor → List Fail
overlaps_in runs missing c = overlaps_on (map part_of runs) missing c

-- and of those that the first n words of a lent array hold
abbrev pub overlaps_from : List ℕ → ℕ → List ℕ → Cursor → List Fail
overlaps_from runs n missing c = overlaps_in (take n runs) missing c

pub record InRange (c : Cursor) : Type 0 where
  pub from : c.from < 64
  pub to : c.to < 64
  pub short : c.short ≤ most_lots

pub record CanShort (missing : List ℕ) : Type 0 where
  pub accounts : length missing ≡ 64
  pub small : (a : ℕ) → get_or missing a 0 ≤ most_lots

-- a cursor whose shortfall is not 0
pub record IsShort (missing : List ℕ) (c r : Cursor) : Type 0 where
  pub same : (us : List AccountLots) → overlaps_on us missing c ≡ overlaps_on us missing r
  pub some : 0 < r.short
  pub range : InRange r

-- or none is left
abbrev pub AtShort : List ℕ → Cursor → Option Cursor → Type 0
AtShort missing c (Some r) = IsShort missing c r
AtShort missing c None = (us : List AccountLots) → overlaps_on us missing c ≡ []

-- a cursor at a run of which something is lacking
pub record IsLacking (us : List AccountLots) (c r : Cursor) : Type 0 where
  pub same : (missing : List ℕ) → overlaps_on us missing c ≡ overlaps_on us missing r
  pub some : 0 < r.lack
  pub short : r.short ≡ c.short
  pub range : InRange r

-- or none is left
abbrev pub AtRun : List AccountLots → Cursor → Option Cursor → Type 0
AtRun us c (Some r) = IsLacking us c r
AtRun us c None = (missing : List ℕ) → overlaps_on us missing c ≡ []

-- an overlap of x lots, and the cursor behind it
abbrev pub overlap_at : Cursor → ℕ → Overlap × Cursor
overlap_at v x = (
  record { from = v.from; to = v.to; lots = x },
  record { account = v.account; from = v.from; short = v.short - x; run = v.run; to = v.to; lack = v.lack - x },
)

-- the list that a step stands for: the overlap handed out, and what is left
abbrev pub overlaps_of : List ℕ → List ℕ → Option (Overlap × Cursor) → List Fail
overlaps_of runs missing (Some p) = fail_of p.0.from (account_lots p.0.to p.0.lots) ∷ overlaps_in runs missing p.1
overlaps_of runs missing None = []

pub record OverlapInRange (o : Overlap) (c : Cursor) : Type 0 where
  pub from : o.from < 64
  pub to : o.to < 64
  pub lots : o.lots ≤ most_lots
  pub cursor : InRange c

abbrev pub NextInRange : Option (Overlap × Cursor) → Type 0
NextInRange (Some p) = OverlapInRange p.0 p.1
NextInRange None = Unit {0}

pub record Advanced (runs missing : List ℕ) (c : Cursor) (r : Option (Overlap × Cursor)) : Type 0 where
  pub list : overlaps_in runs missing c ≡ overlaps_of runs missing r
  pub range : NextInRange r

-- in front of all shortfalls, at a run of which so many lots are lacking
abbrev pub position : ℕ → ℕ → ℕ → ℕ → Position
position run to lack s =
    record { cursor = record { account = 0; from = 0; short = 0; run = run; to = to; lack = lack }; stock = s }

-- after a delivered total of some units: the cursor in front of all overlaps with what they lack, the stock, and whose unit
-- is next; the cursor goes along a lent array as it is left
pub record Started (us : List AccountLots) (after : List ℕ) (n d : ℕ) (r : Position) : Type 0 where
  pub lacking : (missing : List ℕ) →
      overlaps_from after n missing r.cursor ≡ overlaps (by_account 0 missing) (lacks unit_lots us d)
  pub left : r.stock ≡ stock us d
  pub next : r.cursor.to ≡ (first_unit (waiting us d)).account
  pub range : InRange r.cursor
