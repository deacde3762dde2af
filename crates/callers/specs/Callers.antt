-- The calls and the questions on a host's book with their caller, in plain numbers.
use Rattle.std.specs.Prelude.{false, cond, List, [], ◌∷◌, ◌++◌, ℕ, eqb, pos}
use Rattle.rules.specs.declared.Book.{Book}
use Rattle.rules.specs.declared.Caller.{Caller}
use Rattle.rules.specs.declared.Entry.{Entry}
use Rattle.rules.specs.declared.Instruction.{Instruction}
use Rattle.rules.specs.Ledger.{entry}
use Rattle.rules.specs.Questions.{Question, ask, first_no}
use Rattle.rules.specs.Calls.{Call, Commit, Answer, AskAnswer, UnitAnswer, answer, output_asks, own_asks, effect, no_ticket, unit_refused}
use Rattle.rules.specs.Access.{with_right, called_by, asked_by, unit_by, LookAnswer, seen, none_seen, look_refused, look}
use Rattle.rules.specs.Run.{call_of}
use Rattle.book.specs.States.{Column, SharedColumn, Columns}
use Rattle.columns.specs.declared.LentColumns.{LentColumns}
use Rattle.columns.specs.Books.{lent_book}
use Rattle.told.specs.Status.{StatusAnswer, status_refused}
use Rattle.desks.specs.Simulation.{Tried, refused}
use Rattle.secrecy.specs.Requests.{status_by, simulation_by}
use Rattle.desk.specs.Fields.{is_kind}
use Rattle.host.specs.declared.DayState.{DayState}
use Rattle.host.specs.declared.DayTurned.{DayTurned}
use Rattle.callers.specs.declared.DaySeen.{DaySeen}
use Rattle.host.specs.States.{state_in, book_at, holds, sound_at}
use Rattle.host.specs.Calls.{Place, CallIs}
use Rattle.host.specs.Lifts.{ticket_in, CommitIs}

-- a call by a caller
unfoldable pub day_made_by : Caller → ℕ → Book → Call → List ℕ → Answer
day_made_by w phase b c out =
    cond (holds phase b) (called_by w b c out) (answer (first_no (output_asks c out ++ (ask 2 false ∷ []))) b out (effect b c))

-- of a kind
unfoldable pub day_called_by : Caller → ℕ → ℕ → Book → Call → List ℕ → Answer
day_called_by w kind phase b c out = cond (is_kind kind) (day_made_by w phase b c out) (answer 14 b out (effect b c))

-- of an instruction, with roll's quotes and an output beside it, made on the book of a host's numbers and columns, before and
-- after
abbrev pub CalledBy : Caller → ℕ → Instruction → List ℕ → DayState → DayTurned → LentColumns → LentColumns → List ℕ → List ℕ → Type 0
CalledBy w kind x quotes h r before after out out' =
    CallIs (day_called_by w kind h.phase (lent_book (state_in h) before) (call_of x quotes) out) h.phase r (lent_book (state_in r.state) after) out'

-- the same of columns that are lent one by one
abbrev pub DayCalledBy : Caller → ℕ → Instruction → SharedColumn ℕ → Column ℕ → DayState → DayTurned → Columns → Type 0
DayCalledBy w kind x quotes out h r c =
    CallIs (day_called_by w kind h.phase (book_at h c) (call_of x quotes.entry.now) out.entry.now) h.phase r (c.after (state_in r.state)) out.exit.now

-- all that is asked where the caller has not the right
abbrev pub asks_at : ℕ → Book → Call → List ℕ → List Question
asks_at phase b c out = with_right false (output_asks c out ++ (ask 2 (sound_at phase b) ∷ own_asks b c))

-- question 2, and then a number
abbrev pub unless_unsound : ℕ → ℕ → Book → ℕ
unless_unsound n phase b = cond (sound_at phase b) n 2

-- a ticket's six numbers committed by a caller on a host's book: the lifts and the output afterwards, number and count
abbrev pub CommittedBy : Caller → ℕ → Book → List ℕ → List ℕ → List ℕ → List ℕ → ℕ → ℕ → Type 0
CommittedBy w phase b ticket out lifts out' number count =
    CommitIs b (day_made_by w phase b (Commit (ticket_in ticket)) out) number count lifts out'

-- the same of columns that are lent one by one
abbrev pub DayCommittedBy : Caller → ℕ → Book → List ℕ → Column ℕ → Column ℕ → ℕ → Place → Type 0
DayCommittedBy w phase b ticket out lifts number count =
    CommittedBy w phase b ticket out.entry.now lifts.exit.now out.exit.now number count.exit.now

-- the questions by a caller
abbrev pub day_asked_by : Caller → ℕ → Book → ℕ → ℕ → AskAnswer
day_asked_by w phase b i k = cond (holds phase b) (asked_by w b i k) (no_ticket 2)

abbrev pub day_unit_by : Caller → ℕ → Book → ℕ → ℕ → UnitAnswer
day_unit_by w phase b i k = cond (holds phase b) (unit_by w b i k) (unit_refused 2)

abbrev pub day_status_by : Caller → ℕ → Book → ℕ → ℕ → StatusAnswer
day_status_by w phase b i k = cond (holds phase b) (status_by w b i k) (status_refused 2)

abbrev pub day_simulation_by : Caller → ℕ → Book → List ℕ → List ℕ → ℕ → Tried
day_simulation_by w phase b settles inventories size = cond (holds phase b) (simulation_by w b settles inventories size) (refused 2)

-- of a simulation's number what is asked before 27, and else 27
abbrev pub early_number : ℕ → ℕ
early_number n = cond (eqb n 2) 2 (cond (eqb n 5) 5 27)

-- reading an account
abbrev pub day_look : Caller → ℕ → Book → ℕ → ℕ → ℕ → LookAnswer
day_look w phase b i a k = cond (holds phase b) (look w b i a k) (look_refused 2)

abbrev pub no_entry_there : Entry
no_entry_there = entry 0 0 0 0 0

-- in plain numbers: 1 and the entry, or 0 and an entry of zeros; on a refusal its number and 0 throughout
abbrev pub seen_in : LookAnswer → DaySeen
seen_in (seen net charge e) = record { refusal = 0; some = 1; net = net; charge = charge; entry = e }
seen_in (none_seen net charge) = record { refusal = 0; some = 0; net = net; charge = charge; entry = no_entry_there }
seen_in (look_refused r) = record { refusal = r; some = 0; net = pos 0; charge = pos 0; entry = no_entry_there }
