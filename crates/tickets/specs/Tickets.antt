-- What an issue's ticket may assume, and what it is.
use Rattle.std.specs.Prelude.{◌≡◌, Bool, false, cond, ◌&&◌, List, [], ◌∷◌, ℕ, ◌≤◌, ◌<◌, leb, ltb, length, drop, ℤ}
use Rattle.rules.specs.declared.Ticket.{Ticket}
use Rattle.rules.specs.Units.{AccountLots}
use Rattle.rules.specs.Handover.{covered, stock, first_unit}
use Rattle.rules.specs.Book.{delivered_total, order_in}
use Rattle.rules.specs.Questions.{ask, first_no, ask_ticket, ask_lifts}
use Rattle.rules.specs.Calls.{AskAnswer, ticket_answer, ticket_for}
use Rattle.book.specs.Cells.{SoundCells}
use Rattle.runs.specs.Runs.{units_in, CanOrder}
use Rattle.tickets.specs.declared.Stand.{Stand}

-- an issue of a sound book, and an array for its units
pub record CanStand (nets : List ℤ) (delivered lifts : List ℕ) (i : ℕ) (runs : List ℕ) : Type 0 where
  pub sound : SoundCells nets delivered lifts
  pub issue : i < 16
  pub room : 144 ≤ length runs

-- the array holds the issue's units in the order of old; in either order so many are handed and so many lots are left
pub record Stands (nets : List ℤ) (delivered lifts : List ℕ) (i : ℕ) (runs : List ℕ) (r : Stand) : Type 0 where
  pub there : r.n ≤ length runs
  pub units : units_in runs r.n ≡ order_in false nets lifts i
  pub covers : (new : Bool) → r.handed ≡ covered (order_in new nets lifts i) (delivered_total delivered i)
  pub left : (new : Bool) → r.stock ≡ stock (order_in new nets lifts i) (delivered_total delivered i)

-- an issue's units in the order of old, of which a ticket can be made
pub record CanTicket (nets : List ℤ) (lifts : List ℕ) (i : ℕ) (runs : List ℕ) (p : Stand) : Type 0 where
  pub order : CanOrder nets lifts i
  pub there : p.n ≤ length runs
  pub units : units_in runs p.n ≡ order_in false nets lifts i

-- question 16 of unit k, of units of which h are handed, and its ticket
unfoldable pub unhanded_ticket : List AccountLots → ℕ → ℕ → ℕ → ℕ → ℕ → AskAnswer
unhanded_ticket us h today n i k =
    ticket_answer (first_no (ask 16 (leb h k && ltb k (length us)) ∷ [])) (ticket_for i k (first_unit (drop k us)) today n)

-- questions 17 and 18, where asking now gives a ticket
abbrev pub commit_no : Ticket → AskAnswer → ℕ → ℕ
commit_no t a n = cond a.some (first_no (ask_ticket t a.ticket ∷ ask_lifts n ∷ [])) a.refusal
