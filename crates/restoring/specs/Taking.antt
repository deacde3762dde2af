-- Columns taken from the places of a snapshot's words.
use Rattle.std.specs.Prelude.{◌≡◌, Bool, ◌&&◌, List, map, ℕ, length, get_or, take, drop, ℤ}
use Rattle.rules.specs.declared.State.{State}
use Rattle.rules.specs.Book.{all, state_of, CellLengths, LedgerLengths}
use Rattle.columns.specs.declared.LentColumns.{LentColumns}
use Rattle.checksums.specs.Sums.{below}
use Rattle.snapshots.specs.Words.{phase_in, signed_in, longs_in, field_in, issue_in, from_in, to_in, day_in}
use Rattle.snapshots.specs.Snapshot.{snapshot_words}
use Rattle.restoring.specs.declared.Field.{Field}
use Rattle.restoring.specs.declared.Field.TheVariants as field

-- so many words from a place on
abbrev pub part : ℕ → ℕ → List ℕ → List ℕ
part at n ws = take n (drop at ws)

-- the byte of a word that is a field
abbrev pub field_of : Field → ℕ → ℕ
field_of field.Mark = field_in 1 256
field_of field.Issue = issue_in
field_of field.From = from_in
field_of field.To = to_in

-- columns of a book's lengths
pub record CanTake (ws : List ℕ) (nets : List ℤ) (delivered lifts : List ℕ) (charges : List ℤ) : Type 0 where
  pub long : length ws ≡ snapshot_words
  pub cells : CellLengths nets delivered
  pub lift_words : length lifts ≡ 288
  pub accounts : length charges ≡ 64

pub record CanTakeLedger (ws issues froms tos lots days : List ℕ) : Type 0 where
  pub long : length ws ≡ snapshot_words
  pub lengths : LedgerLengths issues froms tos lots days

-- the columns but for the ledger's
pub record TakenCells (ws : List ℕ) (nets : List ℤ) (delivered lifts : List ℕ) (charges : List ℤ) : Type 0 where
  pub first : nets ≡ map signed_in (part 23 1024 ws)
  pub second : delivered ≡ part 1047 1024 ws
  pub third : lifts ≡ part 2071 288 ws
  pub fourth : charges ≡ longs_in (part 2359 128 ws)

-- the ledger's
pub record TakenLedger (ws issues froms tos lots days : List ℕ) : Type 0 where
  pub first : issues ≡ map issue_in (part 2487 2048 ws)
  pub second : froms ≡ map from_in (part 2487 2048 ws)
  pub third : tos ≡ map to_in (part 2487 2048 ws)
  pub fourth : lots ≡ part 4535 2048 ws
  pub fifth : days ≡ map day_in (part 2487 2048 ws)

-- all nine
pub record Taken (ws : List ℕ) (c : LentColumns) : Type 0 where
  pub cells : TakenCells ws c.nets.now c.delivered.now c.lifts.now c.charges.now
  pub ledger : TakenLedger ws c.issues.now c.froms.now c.tos.now c.lots.now c.days.now

-- do the numbers of a state fit?
abbrev pub numbers_fit : List ℕ → Bool
numbers_fit ws = all (below 256) (part 7 16 ws) && below 65536 (get_or ws 3 0) && below 3 (get_or ws 4 0)

-- the state
abbrev pub taken_state : List ℕ → State
taken_state ws =
    state_of (day_in (get_or ws 3 0)) (phase_in (get_or ws 4 0)) (get_or ws 5 0) (get_or ws 6 0) (map (field_in 1 256) (part 7 16 ws))
