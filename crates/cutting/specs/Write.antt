-- Entries and records written into the ledger's columns and the part of the output that are lent.
use Rattle.std.specs.Prelude.{◌≡◌, List, ◌++◌, map, ℕ, ◌+◌, ◌*◌, ◌≤◌, length}
use Rattle.rules.specs.declared.Entry.{Entry}
use Rattle.rules.specs.Measures.{most_entries}
use Rattle.rules.specs.Book.{entries}
use Rattle.rules.specs.Records.{Rec, record_of, words, over}
use Rattle.ledger.specs.declared.Ledger.{Ledger}
use Rattle.ledger.specs.Columns.{Held}

-- what is lent: the ledger's five columns and the output
pub record Lent : Type 0 where
  pub issues : List ℕ
  pub froms : List ℕ
  pub tos : List ℕ
  pub lots : List ℕ
  pub days : List ℕ
  pub out : List ℕ

abbrev pub lent : List ℕ → List ℕ → List ℕ → List ℕ → List ℕ → List ℕ → Lent
lent i f t x d o = record { issues = i; froms = f; tos = t; lots = x; days = d; out = o }

-- the same by name
abbrev pub lending : Ledger → List ℕ → Lent
lending l o = lent l.issues.now l.froms.now l.tos.now l.lots.now l.days.now o

-- the ledger of n entries in the columns, and that they hold one
abbrev pub ledger_in : ℕ → Lent → List Entry
ledger_in n a = entries n a.issues a.froms a.tos a.lots a.days

abbrev pub HeldIn : ℕ → Lent → Type 0
HeldIn n a = Held n a.issues a.froms a.tos a.lots a.days

-- the records of fails
abbrev pub fail_records : List Entry → List Rec
fail_records es = map (record_of 12) es

-- there is room for these entries behind n others, and for these records
pub record CanWrite (es : List Entry) (rs : List Rec) (n : ℕ) (a : Lent) : Type 0 where
  pub held : HeldIn n a
  pub most : n + length es ≤ most_entries
  pub room : 2 * length rs ≤ length a.out

-- they were written: the ledger is now of m entries, the records stand in front of the output
pub record Wrote (es : List Entry) (rs : List Rec) (n : ℕ) (a : Lent) (m : ℕ) (b : Lent) : Type 0 where
  pub held : HeldIn m b
  pub ledger : ledger_in m b ≡ ledger_in n a ++ es
  pub out : b.out ≡ over (words rs) a.out
