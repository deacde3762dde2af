-- A book is a small state and its nine columns. What a call may count on of columns that are lent to it together.
use Rattle.std.specs.Prelude.{◌≡◌, true, List, ℕ, ◌≤◌, length}
use Rattle.rules.specs.declared.Book.{Book}
use Rattle.rules.specs.declared.State.{State}
use Rattle.rules.specs.Measures.{output_words}
use Rattle.rules.specs.Book.{book_of, sound, Lengths}
use Rattle.columns.specs.declared.SharedColumns.{SharedColumns}
use Rattle.columns.specs.declared.LentColumns.{LentColumns}
use Rattle.columns.specs.declared.SharedLedger.{SharedLedger}

-- the book of a state and columns that are only read
abbrev pub shared_book : State → SharedColumns → Book
shared_book s c =
    book_of s c.nets.now c.delivered.now c.lifts.now c.charges.now c.issues.now c.froms.now c.tos.now c.lots.now c.days.now

-- the book of a state and lent columns: before a call those of `columns.old`, after it those of `columns.new`
abbrev pub lent_book : State → LentColumns → Book
lent_book s c =
    book_of s c.nets.now c.delivered.now c.lifts.now c.charges.now c.issues.now c.froms.now c.tos.now c.lots.now c.days.now

-- the ledger's columns among the nine
abbrev pub ledger_in : SharedColumns → SharedLedger
ledger_in c = record { issues = c.issues; froms = c.froms; tos = c.tos; lots = c.lots; days = c.days }

-- lent columns before and after a call are the same references
pub record SameColumns (c d : LentColumns) : Type 0 where
  pub nets : d.nets.ghost_name ≡ c.nets.ghost_name
  pub delivered : d.delivered.ghost_name ≡ c.delivered.ghost_name
  pub lifts : d.lifts.ghost_name ≡ c.lifts.ghost_name
  pub charges : d.charges.ghost_name ≡ c.charges.ghost_name
  pub issues : d.issues.ghost_name ≡ c.issues.ghost_name
  pub froms : d.froms.ghost_name ≡ c.froms.ghost_name
  pub tos : d.tos.ghost_name ≡ c.tos.ghost_name
  pub lots : d.lots.ghost_name ≡ c.lots.ghost_name
  pub days : d.days.ghost_name ≡ c.days.ghost_name

-- columns of a book's lengths
abbrev pub SharedLengths : SharedColumns → Type 0
SharedLengths c =
    Lengths c.nets.now c.delivered.now c.lifts.now c.charges.now c.issues.now c.froms.now c.tos.now c.lots.now c.days.now

abbrev pub LentLengths : LentColumns → Type 0
LentLengths c =
    Lengths c.nets.now c.delivered.now c.lifts.now c.charges.now c.issues.now c.froms.now c.tos.now c.lots.now c.days.now

-- lent columns of a book's lengths that are a sound book
pub record IsSound (s : State) (c : LentColumns) : Type 0 where
  pub lengths : LentLengths c
  pub sound : sound (lent_book s c) ≡ true

-- and beside them an output that is long enough
pub record IsReady (s : State) (c : LentColumns) (out : List ℕ) : Type 0 where
  pub lengths : LentLengths c
  pub sound : sound (lent_book s c) ≡ true
  pub room : output_words ≤ length out
