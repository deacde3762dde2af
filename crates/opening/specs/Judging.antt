-- What words are judged as, and what is opened in lent columns.
use Rattle.std.specs.Prelude.{Result, Ok, Err}
use Rattle.std.specs.Prelude.{◌≡◌, List, ℕ}
use Rattle.snapshots.specs.declared.Fault.{Fault}
use Rattle.rules.specs.declared.Book.{Book}
use Rattle.rules.specs.declared.State.{State}
use Rattle.rules.specs.Book.{with_state, fresh}
use Rattle.snapshots.specs.Snapshot.{book_in, Opened, opened}

-- the book of words, with this state
abbrev pub book_with : List ℕ → State → Book
book_with ws s = with_state (book_in ws) s

-- what is opened in lent columns: its number, and the book in them afterwards; where it is refused, what was lent
abbrev pub open_number : Opened → ℕ
open_number (Err n) = n
open_number (Ok b) = 0

abbrev pub open_book : Opened → Book → Book
open_book (Err n) lent = with_state lent fresh.state
open_book (Ok b) lent = b

-- the state in an answer of the code, that of a fresh book where words are refused
abbrev pub opened_state : Result State Fault → State
opened_state (Ok s) = s
opened_state (Err f) = fresh.state

-- the number and the state that words are judged as
pub record Judges (ws : List ℕ) (number : ℕ) (s : State) : Type 0 where
  pub refusal : number ≡ open_number (opened ws)
  pub state : s ≡ (open_book (opened ws) fresh).state

-- and what was lent, opened
pub record Opens (ws : List ℕ) (number : ℕ) (before after : Book) : Type 0 where
  pub refusal : number ≡ open_number (opened ws)
  pub book : after ≡ open_book (opened ws) before
