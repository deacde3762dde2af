-- What an instruction answers in place. It is lent the columns that it reads or changes: its answer is the call's, of
-- every sound book that has them.
use Rattle.std.specs.Prelude.{◌≡◌, true, List, ℕ, ◌≤◌, length, ℤ, Result, Ok, Err}
use Rattle.rules.specs.declared.Book.{Book}
use Rattle.rules.specs.declared.Instruction.{Instruction}
use Rattle.rules.specs.declared.Refusal.{Refusal}
use Rattle.rules.specs.declared.State.{State}
use Rattle.rules.specs.Refusals.{number_in}
use Rattle.rules.specs.Measures.{lift_cells, output_words}
use Rattle.rules.specs.Book.{sound, CellLengths, LedgerLengths, book_of}
use Rattle.rules.specs.Calls.{Call, Answer, called}
use Rattle.rules.specs.Run.{call_of}
use Rattle.book.specs.States.{Lent, Column, SharedColumn, Shared}
use Rattle.columns.specs.declared.LentColumns.{LentColumns}
use Rattle.columns.specs.Books.{lent_book}
use Rattle.answers.specs.declared.Turn.{Turn}

abbrev pub turn_of : ℕ → ℕ → State → Turn
turn_of k x s = record { count = k; cancelled = x; state = s }

-- what a call gives: a turn, or the refusal
abbrev pub Given : Type 0
Given = Result Turn Refusal

-- the count, the lots cancelled and the state after it: none, none and the state as it was, where it is refused
abbrev pub count_in : Given → ℕ
count_in (Ok t) = t.count
count_in (Err r) = 0

abbrev pub cancelled_in : Given → ℕ
cancelled_in (Ok t) = t.cancelled
cancelled_in (Err r) = 0

abbrev pub state_after : State → Given → State
state_after s (Ok t) = t.state
state_after s (Err r) = s

-- number, count and book are an answer's
pub record Says (d : Answer) (r : Given) (b : Book) : Type 0 where
  pub refusal : number_in r ≡ d.refusal
  pub count : count_in r ≡ d.count
  pub book : b ≡ d.book

-- and so are the lots cancelled and the words
pub record TurnIs (d : Answer) (r : Given) (b : Book) (words : List ℕ) : Type 0 where
  pub refusal : number_in r ≡ d.refusal
  pub count : count_in r ≡ d.count
  pub cancelled : cancelled_in r ≡ d.cancelled
  pub book : b ≡ d.book
  pub out : words ≡ d.out

-- Any instruction, on all columns

-- a call made on the book of a state and its columns, before and after, and the output beside it, before and after
abbrev pub Makes : State → Call → Given → LentColumns → LentColumns → List ℕ → List ℕ → Type 0
Makes s c r before after out out' = TurnIs (called (lent_book s before) c out) r (lent_book (state_after s r) after) out'

-- the same where none is lent: any that stands beside it is left as it was
abbrev pub MakesAlone : State → Call → Given → LentColumns → LentColumns → Type 0
MakesAlone s c r before after = (out : List ℕ) → Makes s c r before after out out

-- an instruction, with roll's quotes
abbrev pub Answered : Instruction → List ℕ → State → Given → LentColumns → LentColumns → List ℕ → List ℕ → Type 0
Answered x quotes s r before after out out' = Makes s (call_of x quotes) r before after out out'

-- One call, on the columns that it reads or changes

-- a book with what is lent, before the call and after it
pub record Within : Type 0 where
  pub before : State → Book → Book
  pub after : State → Book → Book

-- any book with this state, and with these columns
abbrev pub in_state : State → Book → Book
in_state s b = book_of s b.nets b.delivered b.lifts b.charges b.issues b.froms b.tos b.lots b.days

abbrev pub within_nets : State → List ℤ → Book → Book
within_nets s nets b = book_of s nets b.delivered b.lifts b.charges b.issues b.froms b.tos b.lots b.days

abbrev pub within_cells : State → List ℤ → List ℕ → List ℕ → Book → Book
within_cells s nets delivered lifts b = book_of s nets delivered lifts b.charges b.issues b.froms b.tos b.lots b.days

abbrev pub within_ledger : State → List ℕ → List ℕ → List ℕ → List ℕ → List ℕ → Book → Book
within_ledger s issues froms tos lots days b = book_of s b.nets b.delivered b.lifts b.charges issues froms tos lots days

abbrev pub but_charges : State → List ℤ → List ℕ → List ℕ → List ℕ → List ℕ → List ℕ → List ℕ → List ℕ → Book → Book
but_charges s nets delivered lifts issues froms tos lots days b = book_of s nets delivered lifts b.charges issues froms tos lots days

abbrev pub within_use : State → List ℤ → List ℕ → Book → Book
within_use s nets issues b = book_of s nets b.delivered b.lifts b.charges issues b.froms b.tos b.lots b.days

abbrev pub on_state : Within
on_state = record { before = in_state; after = in_state }

abbrev pub on_nets : Column ℤ → Within
on_nets nets =
    record { before = λ s. within_nets s nets.entry.now; after = λ s. within_nets s nets.exit.now }

abbrev pub on_delivered : SharedColumn ℤ → Column ℕ → Column ℕ → Within
on_delivered nets delivered lifts =
    record {
      before = λ s. within_cells s nets.entry.now delivered.entry.now lifts.entry.now;
      after = λ s. within_cells s nets.entry.now delivered.exit.now lifts.exit.now;
    }

abbrev pub on_ledger : Column ℕ → Column ℕ → Column ℕ → Column ℕ → Column ℕ → Within
on_ledger issues froms tos lots days =
    record {
      before = λ s. within_ledger s issues.entry.now froms.entry.now tos.entry.now lots.entry.now days.entry.now;
      after = λ s. within_ledger s issues.exit.now froms.exit.now tos.exit.now lots.exit.now days.exit.now;
    }

abbrev pub on_fails : SharedColumn ℤ → SharedColumn ℕ → SharedColumn ℕ → Column ℕ → Column ℕ → Column ℕ → Column ℕ → Column ℕ → Within
on_fails nets delivered lifts issues froms tos lots days =
    record {
      before = λ s. but_charges s nets.entry.now delivered.entry.now lifts.entry.now issues.entry.now froms.entry.now tos.entry.now lots.entry.now days.entry.now;
      after = λ s. but_charges s nets.entry.now delivered.entry.now lifts.entry.now issues.exit.now froms.exit.now tos.exit.now lots.exit.now days.exit.now;
    }

abbrev pub on_marks : SharedColumn ℤ → SharedColumn ℕ → Within
on_marks nets issues =
    record { before = λ s. within_use s nets.entry.now issues.entry.now; after = λ s. within_use s nets.entry.now issues.entry.now }

-- the answer of a call, of every sound book with what is lent, and the output beside it, before and after
abbrev pub Turns : Within → State → Call → Given → List ℕ → List ℕ → Type 0
Turns w s c r out out' =
    (b : Book) → sound (w.before s b) ≡ true → TurnIs (called (w.before s b) c out) r (w.after (state_after s r) b) out'

-- the same where none is lent: any that stands beside it is left as it was
abbrev pub TurnsAlone : Within → State → Call → Given → Type 0
TurnsAlone w s c r = (out : List ℕ) → Turns w s c r out out

-- what a call in place asks: some book with what is lent is sound, and the lengths are right
pub record SomeSound (within : Book → Book) : Type 0 where
  pub rest : Book
  pub sound : sound (within rest) ≡ true

abbrev pub trade_ready : State → Lent ℤ → Type 0
trade_ready s nets = (length nets.now ≡ 1024) × SomeSound (within_nets s nets.now)

abbrev pub deliver_ready : State → Shared ℤ → Lent ℕ → Lent ℕ → Lent ℕ → Type 0
deliver_ready s nets delivered lifts out =
    CellLengths nets.now delivered.now × (length lifts.now ≡ lift_cells)
    × SomeSound (within_cells s nets.now delivered.now lifts.now)
    × (output_words ≤ length out.now)

abbrev pub ledger_ready : State → Lent ℕ → Lent ℕ → Lent ℕ → Lent ℕ → Lent ℕ → Type 0
ledger_ready s issues froms tos lots days =
    LedgerLengths issues.now froms.now tos.now lots.now days.now
    × SomeSound (within_ledger s issues.now froms.now tos.now lots.now days.now)

abbrev pub cutoff_ready : State → Shared ℤ → Shared ℕ → Shared ℕ → Lent ℕ → Lent ℕ → Lent ℕ → Lent ℕ → Lent ℕ → Lent ℕ → Type 0
cutoff_ready s nets delivered lifts issues froms tos lots days out =
    CellLengths nets.now delivered.now × (length lifts.now ≡ lift_cells) × LedgerLengths issues.now froms.now tos.now lots.now days.now
    × SomeSound (but_charges s nets.now delivered.now lifts.now issues.now froms.now tos.now lots.now days.now)
    × (output_words ≤ length out.now)

abbrev pub mark_ready : State → Shared ℤ → Shared ℕ → Type 0
mark_ready s nets issues = (length nets.now ≡ 1024) × (length issues.now ≡ 2048) × SomeSound (within_use s nets.now issues.now)
