-- A book is a small state and its columns. A contract takes lent columns by name.
use Rattle.std.specs.Prelude.{List, ℕ, ℤ}
use Rattle.std.specs.Borrow.{Bor, MutBor}
use denote.Triple.Both.{Both}
use Rattle.rules.specs.declared.Book.{Book}
use Rattle.rules.specs.declared.State.{State}
use Rattle.rules.specs.Book.{book_of}

-- a column as a contract has it: lent, and before and after
abbrev pub Lent : Type 0 → Type 0
Lent X = MutBor (List X)

abbrev pub Column : Type 0 → Type 0
Column X = Both (Lent X) (Lent X)

-- the same of a column that is only read
abbrev pub Shared : Type 0 → Type 0
Shared X = Bor (List X)

abbrev pub SharedColumn : Type 0 → Type 0
SharedColumn X = Both (Shared X) (Shared X)

-- the book of a state and the columns, before and after
pub record Columns : Type 0 where
  pub before : State → Book
  pub after : State → Book

abbrev pub columns :
    Column ℤ → Column ℕ → Column ℕ → Column ℤ → Column ℕ → Column ℕ → Column ℕ → Column ℕ → Column ℕ → Columns
columns nets delivered lifts charges issues froms tos lots days =
    record {
      before = λ s. book_of s nets.entry.now delivered.entry.now lifts.entry.now charges.entry.now issues.entry.now froms.entry.now tos.entry.now lots.entry.now days.entry.now;
      after = λ s. book_of s nets.exit.now delivered.exit.now lifts.exit.now charges.exit.now issues.exit.now froms.exit.now tos.exit.now lots.exit.now days.exit.now;
    }

-- the same of columns that are only read
abbrev pub shared_columns :
    SharedColumn ℤ → SharedColumn ℕ → SharedColumn ℕ → SharedColumn ℤ → SharedColumn ℕ → SharedColumn ℕ → SharedColumn ℕ → SharedColumn ℕ → SharedColumn ℕ → Columns
shared_columns nets delivered lifts charges issues froms tos lots days =
    record {
      before = λ s. book_of s nets.entry.now delivered.entry.now lifts.entry.now charges.entry.now issues.entry.now froms.entry.now tos.entry.now lots.entry.now days.entry.now;
      after = λ s. book_of s nets.exit.now delivered.exit.now lifts.exit.now charges.exit.now issues.exit.now froms.exit.now tos.exit.now lots.exit.now days.exit.now;
    }

-- the same where the column of lifts alone is written
abbrev pub lifting_columns :
    SharedColumn ℤ → SharedColumn ℕ → Column ℕ → SharedColumn ℤ → SharedColumn ℕ → SharedColumn ℕ → SharedColumn ℕ → SharedColumn ℕ → SharedColumn ℕ → Columns
lifting_columns nets delivered lifts charges issues froms tos lots days =
    record {
      before = λ s. book_of s nets.entry.now delivered.entry.now lifts.entry.now charges.entry.now issues.entry.now froms.entry.now tos.entry.now lots.entry.now days.entry.now;
      after = λ s. book_of s nets.exit.now delivered.exit.now lifts.exit.now charges.exit.now issues.exit.now froms.exit.now tos.exit.now lots.exit.now days.exit.now;
    }
