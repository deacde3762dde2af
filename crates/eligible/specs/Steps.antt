-- What the functions of this crate may count on, and what they leave.
use Rattle.std.specs.Prelude.{◌≡◌, cond, ◌&&◌, List, [], ℕ, ◌≤◌, ◌<◌, eqb, length, get_or, ℤ}
use Rattle.reports.specs.Reports.{most_reports, Reports, reports, size_of, eligible_lots}

-- the reports without their counterparties
abbrev pub unfaced : List ℕ → List ℤ → List ℕ → Reports
unfaced subs lots earlier = reports subs [] lots earlier

-- at most 256 reports, in columns of one length
pub record Few (subs : List ℕ) (lots : List ℤ) (earlier : List ℕ) : Type 0 where
  pub places : length lots ≡ length subs
  pub fails : length earlier ≡ length subs
  pub few : length subs ≤ most_reports

-- one of them
pub record OneOf (subs : List ℕ) (lots : List ℤ) (earlier : List ℕ) (k : ℕ) : Type 0 where
  pub columns : Few subs lots earlier
  pub there : k < length subs

-- and a place for the size of each
pub record Sizable (subs : List ℕ) (lots : List ℤ) (earlier sizes : List ℕ) : Type 0 where
  pub columns : Few subs lots earlier
  pub room : length subs ≤ length sizes

-- each report's size at the place of its number, and the eligible lots
pub record Sized (rs : Reports) (sizes : List ℕ) (sum : ℕ) : Type 0 where
  pub each : (k : ℕ) → k < length rs.subs → get_or sizes k 0 ≡ size_of rs k
  pub lots : sum ≡ eligible_lots rs

-- the lots of a report that counts for a sub-account, 0 of any other
abbrev pub counted_for : ℕ → ℕ → ℕ → ℕ → ℕ
counted_for s earlier sub x = cond (eqb earlier 0 && eqb sub s) x 0
