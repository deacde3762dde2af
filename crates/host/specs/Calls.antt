-- The calls on a host's book, in plain numbers: of numbers and columns that can be a book's what the rules answer, any
-- others are refused by 1 or 2.
use Rattle.std.specs.Prelude.{◌≡◌, false, cond, List, [], ◌∷◌, ◌++◌, ℕ, leb, Ok, Err}
use Rattle.std.specs.Borrow.{MutBor}
use denote.Triple.Both.{Both}
use Rattle.rules.specs.declared.Book.{Book}
use Rattle.rules.specs.declared.Instruction.{Instruction}
use Rattle.rules.specs.Refusals.{number_of}
use Rattle.rules.specs.Questions.{ask, first_no}
use Rattle.rules.specs.Calls.{Call, Answer, answer, output_asks, effect, called}
use Rattle.rules.specs.Run.{call_of}
use Rattle.book.specs.States.{Column, SharedColumn, Columns}
use Rattle.columns.specs.declared.LentColumns.{LentColumns}
use Rattle.columns.specs.Books.{lent_book}
use Rattle.answers.specs.declared.Turn.{Turn}
use Rattle.answers.specs.Turns.{Given}
use Rattle.desk.specs.Fields.{is_kind}
use Rattle.host.specs.declared.DayState.{DayState}
use Rattle.host.specs.declared.DayTurned.{DayTurned}
use Rattle.host.specs.States.{number_of as stage_of, state_in, numbers_of, book_at, holds}

-- a call of a host, with the output beside it
unfoldable pub day_made : ℕ → Book → Call → List ℕ → Answer
day_made phase b c out =
    cond (holds phase b) (called b c out) (answer (first_no (output_asks c out ++ (ask 2 false ∷ []))) b out (effect b c))

-- of a kind: one that is none of 1 to 7, 13 and 14 is refused by 14 before anything else is asked
unfoldable pub day_called : ℕ → ℕ → Book → Call → List ℕ → Answer
day_called kind phase b c out = cond (is_kind kind) (day_made phase b c out) (answer 14 b out (effect b c))

-- a refusal, what a call that is done answered, and what a call gave, in plain numbers
abbrev pub refused_by : ℕ → DayState → DayTurned
refused_by n h = record { refusal = n; count = 0; cancelled = 0; state = h }

abbrev pub turned_of : Turn → DayTurned
turned_of t = record { refusal = 0; count = t.count; cancelled = t.cancelled; state = numbers_of t.state }

abbrev pub given_of : DayState → Given → DayTurned
given_of h (Ok t) = turned_of t
given_of h (Err r) = refused_by (number_of r) h

-- they are an answer's: a number that is no phase stays
pub record CallIs (d : Answer) (phase : ℕ) (r : DayTurned) (after : Book) (words : List ℕ) : Type 0 where
  pub refusal : r.refusal ≡ d.refusal
  pub count : r.count ≡ d.count
  pub cancelled : r.cancelled ≡ d.cancelled
  pub book : after ≡ d.book
  pub stage : r.state.phase ≡ cond (leb phase 2) (stage_of d.book.state.phase) phase
  pub out : words ≡ d.out

-- an instruction, with roll's quotes and an output beside it, made on the book of a host's numbers and columns, before and
-- after
abbrev pub InstructionMade : Instruction → List ℕ → DayState → DayTurned → LentColumns → LentColumns → List ℕ → List ℕ → Type 0
InstructionMade x quotes h r before after out out' =
    CallIs (day_made h.phase (lent_book (state_in h) before) (call_of x quotes) out) h.phase r (lent_book (state_in r.state) after) out'

-- the same of what it gave
abbrev pub Made : Instruction → List ℕ → DayState → Given → LentColumns → LentColumns → List ℕ → List ℕ → Type 0
Made x quotes h r before after out out' = InstructionMade x quotes h (given_of h r) before after out out'

-- one of a kind
abbrev pub Called : ℕ → Instruction → List ℕ → DayState → DayTurned → LentColumns → LentColumns → List ℕ → List ℕ → Type 0
Called kind x quotes h r before after out out' =
    CallIs (day_called kind h.phase (lent_book (state_in h) before) (call_of x quotes) out) h.phase r (lent_book (state_in r.state) after) out'

-- the same of columns that are lent one by one
abbrev pub DayCalled : ℕ → Instruction → SharedColumn ℕ → Column ℕ → DayState → DayTurned → Columns → Type 0
DayCalled kind x quotes out h r c =
    CallIs (day_called kind h.phase (book_at h c) (call_of x quotes.entry.now) out.entry.now) h.phase r (c.after (state_in r.state)) out.exit.now

-- a lent number, before and after
abbrev pub Place : Type 0
Place = Both (MutBor ℕ) (MutBor ℕ)
