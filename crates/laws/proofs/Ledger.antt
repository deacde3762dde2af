-- The ledger's columns and its list of entries are one another, by one pass over the columns; and an
-- entry read, added or left out is a place of each column.
use mathlib.Core.Path.{◌≡◌, refl, ap, ◌∙◌}
use mathlib.Core.Bool.{true}
use mathlib.Core.List.{List, [], ◌∷◌, ◌++◌, map, tail}
use Prim.Native.Nat.{ℕ, zero, suc, ◌-◌, ◌≤◌, ◌<◌}
use native.Mathlib.Omega.{arith}
use native.Mathlib.Nat.{sub-zero, zero-sub, suc-sub-suc}
use lib.ListN.{length, get_or, drop, replicate, length-map, length-append, length-replicate}
use lib.Seq.{drop_at, drop-nil}
use borrow.Author.Tests.{eqb-true}
use Rattle.rules.specs.declared.Book.{Book}
use Rattle.rules.specs.declared.Entry.{Entry}
use Rattle.rules.specs.Measures.{most_entries}
use Rattle.rules.specs.Ledger.{entry}
use Rattle.rules.specs.Book.{all, head_or0, entries, ledger_of, is_zero, days_sound, column, with_ledger, LedgerLengths}
use Rattle.laws.proofs.Basics.{and_left, and_right, all_replicate, Every, each_at}
use Rattle.laws.proofs.Sound.{SoundEntry, SoundLedger, EvenEntry, SoundBook}

abbrev pub no_entry : Entry
no_entry = entry 0 0 0 0 0

-- From columns to entries

pub length_entries : (n : ℕ) (is fs ts xs ds : List ℕ) → length (entries n is fs ts xs ds) ≡ n
length_entries zero is fs ts xs ds = refl
length_entries (suc n) is fs ts xs ds = ap suc (length_entries n _ _ _ _ _)

pub length_ledger : (b : Book) → length (ledger_of b) ≡ b.state.entries
length_ledger b = length_entries b.state.entries b.issues b.froms b.tos b.lots b.days

pub get_d_tail : (xs : List ℕ) (k : ℕ) → get_or (tail xs) k 0 ≡ get_or xs (suc k) 0
get_d_tail [] k = refl
get_d_tail (x ∷ xs) k = refl

pub get_or_first : (xs : List ℕ) → head_or0 xs ≡ get_or xs 0 0
get_or_first [] = refl
get_or_first (x ∷ xs) = refl

-- the k-th entry is what stands at k in each column
pub entry_at_lem : (n : ℕ) (is fs ts xs ds : List ℕ) (k : ℕ) → k < n →
    get_or (entries n is fs ts xs ds) k no_entry
    ≡ entry (get_or is k 0) (get_or fs k 0) (get_or ts k 0) (get_or xs k 0) (get_or ds k 0)
entry_at_lem zero is fs ts xs ds k h = absurd (omega arith)
entry_at_lem (suc n) is fs ts xs ds zero h =
    rw (get_or_first is, get_or_first fs, get_or_first ts, get_or_first xs, get_or_first ds)
entry_at_lem (suc n) is fs ts xs ds (suc k) h =
    entry_at_lem n (tail is) (tail fs) (tail ts) (tail xs) (tail ds) k (omega arith)
    ∙ rw (get_d_tail is k, get_d_tail fs k, get_d_tail ts k, get_d_tail xs k, get_d_tail ds k)

-- the entries from k on are those of the columns from k on
drop_tail : (k : ℕ) (xs : List ℕ) → drop k (tail xs) ≡ drop (suc k) xs
drop_tail k [] = drop-nil k
drop_tail k (x ∷ xs) = refl

pub drop_entries : (k n : ℕ) (is fs ts xs ds : List ℕ) →
    drop k (entries n is fs ts xs ds) ≡ entries (n - k) (drop k is) (drop k fs) (drop k ts) (drop k xs) (drop k ds)
drop_entries zero n is fs ts xs ds = rw sub-zero
drop_entries (suc k) zero is fs ts xs ds = rw zero-sub
drop_entries (suc k) (suc n) is fs ts xs ds =
    drop_entries k n (tail is) (tail fs) (tail ts) (tail xs) (tail ds)
    ∙ rw (suc-sub-suc, drop_tail k is, drop_tail k fs, drop_tail k ts, drop_tail k xs, drop_tail k ds)

-- each entry of a sound ledger, by its place in the columns
pub sound_at_lem : (today n : ℕ) (is fs ts xs ds : List ℕ) → SoundLedger today n is fs ts xs ds → (k : ℕ) → k < n →
    SoundEntry (entry (get_or is k 0) (get_or fs k 0) (get_or ts k 0) (get_or xs k 0) (get_or ds k 0))
sound_at_lem today n is fs ts xs ds s k h =
    rw (entry_at_lem n is fs ts xs ds k h) at
    (each_at SoundEntry (entries n is fs ts xs ds) no_entry k s.each
    (omega (arith, length_entries n is fs ts xs ds)))

-- From entries to columns, and back

entries_columns : (es : List Entry) (r : List ℕ) →
    entries (length es) (map (λ e. e.issue) es ++ r) (map (λ e. e.from) es ++ r) (map (λ e. e.to) es ++ r)
    (map (λ e. e.lots) es ++ r) (map (λ e. e.day) es ++ r) ≡ es
entries_columns [] r = refl
entries_columns (e ∷ es) r = ap (λ l. e ∷ l) (entries_columns es r)

-- the entries of columns that were written are those that were written
pub entries_written : (es : List Entry) →
    entries (length es) (column (λ e. e.issue) es) (column (λ e. e.from) es) (column (λ e. e.to) es)
    (column (λ e. e.lots) es) (column (λ e. e.day) es) ≡ es
entries_written es = entries_columns es (replicate (most_entries - length es) 0)

pub ledger_written : (b : Book) (es : List Entry) → ledger_of (with_ledger b es) ≡ es
ledger_written b es = entries_written es

-- a column: its length, its unused part, an element, and one entry more
pub length_column : (f : Entry → ℕ) (es : List Entry) → length es ≤ most_entries → length (column f es) ≡ most_entries
length_column f es h =
    simp (length-append, length-map, length-replicate) (omega arith)

pub unused_column : (f : Entry → ℕ) (es : List Entry) → all is_zero (drop (length es) (column f es)) ≡ true
unused_column f es =
    rw (drop_at (map f es) (replicate (most_entries - length es) 0) (length es) (length-map es f))
    (all_replicate is_zero (most_entries - length es) 0 refl)

-- the columns written from a sound ledger's entries are its columns

zeros : (xs : List ℕ) → all is_zero xs ≡ true → replicate (length xs) 0 ≡ xs
zeros [] h = refl
zeros (x ∷ xs) h =
    let e = eqb-true x 0 (and_left (is_zero x) (all is_zero xs) h) in
    let t = zeros xs (and_right (is_zero x) (all is_zero xs) h) in
    cc

abbrev firsts : ℕ → List ℕ → List ℕ
firsts zero xs = []
firsts (suc n) xs = head_or0 xs ∷ firsts n (tail xs)

firsts_zeros : (n : ℕ) (xs : List ℕ) → n ≤ length xs → all is_zero (drop n xs) ≡ true → firsts n xs ++ replicate (length xs - n) 0 ≡ xs
firsts_zeros zero xs l h = rw sub-zero (zeros xs h)
firsts_zeros (suc n) [] l h = absurd (omega arith)
firsts_zeros (suc n) (x ∷ xs) l h = rw suc-sub-suc (ap (λ t. x ∷ t) (firsts_zeros n xs (omega arith) h))

record Firsts (n : ℕ) (is fs ts xs ds : List ℕ) : Type 0 where
  issues : map (λ e. e.issue) (entries n is fs ts xs ds) ≡ firsts n is
  froms : map (λ e. e.from) (entries n is fs ts xs ds) ≡ firsts n fs
  tos : map (λ e. e.to) (entries n is fs ts xs ds) ≡ firsts n ts
  lots : map (λ e. e.lots) (entries n is fs ts xs ds) ≡ firsts n xs
  days : map (λ e. e.day) (entries n is fs ts xs ds) ≡ firsts n ds

first_entries : (n : ℕ) (is fs ts xs ds : List ℕ) → Firsts n is fs ts xs ds
first_entries zero is fs ts xs ds = record { issues = refl; froms = refl; tos = refl; lots = refl; days = refl }
first_entries (suc n) is fs ts xs ds =
    let r = first_entries n (tail is) (tail fs) (tail ts) (tail xs) (tail ds) in
    record {
      issues = ap (λ l. head_or0 is ∷ l) r.issues;
      froms = ap (λ l. head_or0 fs ∷ l) r.froms;
      tos = ap (λ l. head_or0 ts ∷ l) r.tos;
      lots = ap (λ l. head_or0 xs ∷ l) r.lots;
      days = ap (λ l. head_or0 ds ∷ l) r.days;
    }

column_back : (f : Entry → ℕ) (es : List Entry) (n : ℕ) (xs : List ℕ) → length es ≡ n → map f es ≡ firsts n xs →
    n ≤ most_entries → length xs ≡ most_entries → all is_zero (drop n xs) ≡ true → column f es ≡ xs
column_back f es n xs l m h q z =
    rw (m, l, ← q) (firsts_zeros n xs (omega arith) z)

pub record ColumnsBack (es : List Entry) (is fs ts xs ds : List ℕ) : Type 0 where
  pub issues : column (λ e. e.issue) es ≡ is
  pub froms : column (λ e. e.from) es ≡ fs
  pub tos : column (λ e. e.to) es ≡ ts
  pub lots : column (λ e. e.lots) es ≡ xs
  pub days : column (λ e. e.day) es ≡ ds

pub columns_back : (today n : ℕ) (is fs ts xs ds : List ℕ) → SoundLedger today n is fs ts xs ds →
    LedgerLengths is fs ts xs ds → ColumnsBack (entries n is fs ts xs ds) is fs ts xs ds
columns_back today n is fs ts xs ds s c =
    let es = entries n is fs ts xs ds in
    let r = first_entries n is fs ts xs ds in
    let l = length_entries n is fs ts xs ds in
    record {
      issues = column_back (λ e. e.issue) es n is l r.issues s.count c.issues s.unused_issues;
      froms = column_back (λ e. e.from) es n fs l r.froms s.count c.froms s.unused_froms;
      tos = column_back (λ e. e.to) es n ts l r.tos s.count c.tos s.unused_tos;
      lots = column_back (λ e. e.lots) es n xs l r.lots s.count c.lots s.unused_lots;
      days = column_back (λ e. e.day) es n ds l r.days s.count c.days s.unused_days;
    }

-- A ledger written anew

pub ledger_sound_lem : (today : ℕ) (es : List Entry) → length es ≤ most_entries → Every SoundEntry es → days_sound 0 today es ≡ true →
    SoundLedger today (length es) (column (λ e. e.issue) es) (column (λ e. e.from) es) (column (λ e. e.to) es)
    (column (λ e. e.lots) es) (column (λ e. e.day) es)
ledger_sound_lem today es n s d = record {
  count = n;
  each = rw (entries_written es) s;
  days = rw (entries_written es) d;
  unused_issues = unused_column (λ e. e.issue) es;
  unused_froms = unused_column (λ e. e.from) es;
  unused_tos = unused_column (λ e. e.to) es;
  unused_lots = unused_column (λ e. e.lots) es;
  unused_days = unused_column (λ e. e.day) es;
}

-- a sound book with another ledger is sound
pub with_ledger_lem : (b : Book) (es : List Entry) → SoundBook b → length es ≤ most_entries → Every SoundEntry es →
    days_sound 0 b.state.day es ≡ true → Every (EvenEntry b.state.marks) es → SoundBook (with_ledger b es)
with_ledger_lem b es g n s d v = record {
  size = g.size;
  rows = g.rows;
  owed = g.owed;
  taking = g.taking;
  ledger = ledger_sound_lem b.state.day es n s d;
  balance = g.balance;
  bounded = g.bounded;
  lifts = g.lifts;
  even = g.even;
  even_entries = rw (entries_written es) v;
}
