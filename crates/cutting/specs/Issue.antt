-- The cutoff of one issue: where its delivered total ends, the stock's record, the fails' entries and records.
use Rattle.std.specs.Prelude.{◌≡◌, Bool, true, ◌&&◌, List, [], ◌∷◌, map, ℕ, ◌+◌, ◌*◌, ◌≤◌, ◌<◌, min, eqb, length, ℤ}
use Rattle.rules.specs.declared.Entry.{Entry}
use Rattle.rules.specs.Measures.{most_lots, owed_of}
use Rattle.rules.specs.Units.{prepend}
use Rattle.rules.specs.Records.{handover, words, over}
use Rattle.rules.specs.Book.{order_in}
use Rattle.rules.specs.Calls.{fail_entry, issue_fails, issue_partials, issue_entries, issue_records}
use Rattle.book.specs.Cells.{SoundCells}
use Rattle.units.specs.declared.Cursor.{Cursor}
use Rattle.units.specs.Cursor.{overlaps_from, InRange, CanShort}
use Rattle.cutting.specs.declared.Ready.{Ready}
use Rattle.cutting.specs.declared.Counts.{Counts}
use Rattle.cutting.specs.Write.{Lent, fail_records, CanWrite, Wrote}

abbrev pub counts_of : ℕ → ℕ → Counts
counts_of n w = record { entries = n; records = w }

-- one fail's entry and its record
pub record CanEnter (e : Entry) (n : ℕ) (a : Lent) : Type 0 where
  pub issue : e.issue < 16
  pub from : e.from < 64
  pub to : e.to < 64
  pub lots : e.lots ≤ most_lots
  pub write : CanWrite (e ∷ []) (fail_records (e ∷ [])) n a

-- the entries of the overlaps from a cursor on
unfoldable pub entries_on : ℕ → ℕ → List ℕ → ℕ → List ℕ → Cursor → List Entry
entries_on day i runs k missing c = map (fail_entry day i) (overlaps_from runs k missing c)

-- n words hold units, and the shortfalls are small
pub record CanAdvance (runs : List ℕ) (n : ℕ) (missing : List ℕ) : Type 0 where
  pub there : n ≤ length runs
  pub shortfalls : CanShort missing

pub record CanLay (day i : ℕ) (runs missing : List ℕ) (p : Ready) (n : ℕ) (a : Lent) : Type 0 where
  pub issue : i < 16
  pub advance : CanAdvance runs p.n missing
  pub range : InRange p.cursor
  pub write : CanWrite (entries_on day i runs p.n missing p.cursor) (fail_records (entries_on day i runs p.n missing p.cursor)) n a

abbrev pub WasLaid : ℕ → ℕ → List ℕ → List ℕ → Ready → ℕ → Lent → ℕ → Lent → Type 0
WasLaid day i runs missing p n a r b =
    Wrote (entries_on day i runs p.n missing p.cursor) (fail_records (entries_on day i runs p.n missing p.cursor)) n a (n + r) b

-- the stock's record
pub record CanHand (i a x : ℕ) (before : List ℕ) : Type 0 where
  pub issue : i < 16
  pub to : a < 64
  pub lots : x ≤ most_lots
  pub room : 2 * min 1 x ≤ length before

pub record WasHanded (i a x v : ℕ) (before after : List ℕ) : Type 0 where
  pub records : v ≡ length (prepend a x [])
  pub out : after ≡ over (words (map (handover i) (prepend a x []))) before

pub record CanReady (nets : List ℤ) (delivered lifts : List ℕ) (i : ℕ) (runs missing : List ℕ) : Type 0 where
  pub sound : SoundCells nets delivered lifts
  pub issue : i < 16
  pub held : length runs ≡ 144
  pub accounts : length missing ≡ 64

-- an issue's units and shortfalls: the cursor stands for its fails, and the stock for its partial fail
pub record IsReady (new : Bool) (nets : List ℤ) (delivered lifts : List ℕ) (i : ℕ) (runs missing : List ℕ) (r : Ready) : Type 0 where
  pub advance : CanAdvance runs r.n missing
  pub range : InRange r.cursor
  pub stock : r.stock ≤ 99999
  pub fails : overlaps_from runs r.n missing r.cursor ≡ issue_fails (order_in new nets lifts) nets delivered i
  pub partials : prepend r.cursor.to r.stock [] ≡ issue_partials (order_in new nets lifts) delivered i

-- has each account delivered all that it owes?
abbrev pub all_delivered : List ℤ → List ℕ → Bool
all_delivered [] ds = true
all_delivered (n ∷ ns) [] = true
all_delivered (n ∷ ns) (d ∷ ds) = eqb d (owed_of n) && all_delivered ns ds

pub record CanCut (new : Bool) (nets : List ℤ) (delivered lifts : List ℕ) (day i n : ℕ) (a : Lent) : Type 0 where
  pub sound : SoundCells nets delivered lifts
  pub issue : i < 16
  pub write : CanWrite (issue_entries day (order_in new nets lifts) nets delivered i) (issue_records day (order_in new nets lifts) nets delivered i) n a

pub record WasCut (new : Bool) (nets : List ℤ) (delivered lifts : List ℕ) (day i n : ℕ) (a : Lent) (r : Counts) (b : Lent) : Type 0 where
  pub wrote : Wrote (issue_entries day (order_in new nets lifts) nets delivered i) (issue_records day (order_in new nets lifts) nets delivered i) n a r.entries b
  pub records : r.records ≡ length (issue_records day (order_in new nets lifts) nets delivered i)
