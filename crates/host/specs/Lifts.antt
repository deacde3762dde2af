-- The calls of a lift on a host's book, in plain numbers.
use Rattle.std.specs.Prelude.{◌≡◌, cond, List, [], ◌∷◌, ℕ, get_or, Result, Ok, Err}
use Rattle.rules.specs.declared.Book.{Book}
use Rattle.rules.specs.declared.Refusal.{Refusal}
use Rattle.rules.specs.declared.State.{State}
use Rattle.rules.specs.declared.Ticket.{Ticket}
use Rattle.rules.specs.Refusals.{number_in}
use Rattle.rules.specs.Book.{book_of, with_lifts}
use Rattle.rules.specs.Calls.{Commit, Answer, AskAnswer, no_ticket, asked}
use Rattle.book.specs.States.{Column}
use Rattle.host.specs.States.{holds}
use Rattle.host.specs.Calls.{Place, day_made}
use Rattle.host.specs.declared.lifts.OtherColumns.{OtherColumns}

-- a ticket's six numbers, and the ticket of six numbers
abbrev pub ticket_words : Ticket → List ℕ
ticket_words t = t.issue ∷ t.unit ∷ t.account ∷ t.lots ∷ t.day ∷ t.count ∷ []

abbrev pub ticket_in : List ℕ → Ticket
ticket_in ws =
    record { issue = get_or ws 0 0; unit = get_or ws 1 0; account = get_or ws 2 0; lots = get_or ws 3 0; day = get_or ws 4 0; count = get_or ws 5 0 }

-- what asking answers
abbrev pub day_asked : ℕ → Book → ℕ → ℕ → AskAnswer
day_asked phase b i k = cond (holds phase b) (asked b i k) (no_ticket 2)

pub record AskIs (d : AskAnswer) (number : ℕ) (ticket : List ℕ) : Type 0 where
  pub refusal : number ≡ d.refusal
  pub words : ticket ≡ ticket_words d.ticket

-- number, count, book and words are an answer's; no lots are cancelled, and of the book only the lifts change
pub record CommitIs (b : Book) (d : Answer) (number records : ℕ) (lifts words : List ℕ) : Type 0 where
  pub refusal : number ≡ d.refusal
  pub count : records ≡ d.count
  pub cancelled : 0 ≡ d.cancelled
  pub book : with_lifts b lifts ≡ d.book
  pub out : words ≡ d.out

-- the book of a state, lifts, and the other columns, which a lift only reads
abbrev pub lifting_book : State → OtherColumns → List ℕ → Book
lifting_book s c lifts =
    book_of s c.nets.now c.delivered.now lifts c.charges.now c.issues.now c.froms.now c.tos.now c.lots.now c.days.now

abbrev pub records_in : Result ℕ Refusal → ℕ
records_in (Ok n) = n
records_in (Err r) = 0

-- a ticket committed on a host's book: what is given, and the lifts and the output afterwards
abbrev pub CommittedIn : ℕ → Book → Ticket → List ℕ → List ℕ → List ℕ → Result ℕ Refusal → Type 0
CommittedIn phase b t out lifts out' r = CommitIs b (day_made phase b (Commit t) out) (number_in r) (records_in r) lifts out'

-- the same of a ticket's six numbers, in plain numbers
abbrev pub Committed : ℕ → Book → List ℕ → List ℕ → List ℕ → List ℕ → ℕ → ℕ → Type 0
Committed phase b ticket out lifts out' number count =
    CommitIs b (day_made phase b (Commit (ticket_in ticket)) out) number count lifts out'

-- the same of columns that are lent one by one
abbrev pub DayCommitted : ℕ → Book → List ℕ → Column ℕ → Column ℕ → ℕ → Place → Type 0
DayCommitted phase b ticket out lifts number count =
    Committed phase b ticket out.entry.now lifts.exit.now out.exit.now number count.exit.now
