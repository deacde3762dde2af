-- Every request that a caller can make of a book, and what it is told.
use Rattle.std.specs.Prelude.{cond, List, ◌∷◌, ℕ}
use Rattle.rules.specs.declared.Book.{Book}
use Rattle.rules.specs.declared.Caller.{Caller}
use Rattle.rules.specs.Book.{delivered_total, order_of, sound}
use Rattle.rules.specs.Questions.{first_no, ask_sound}
use Rattle.rules.specs.Calls.{Call, Answer, AskAnswer, UnitAnswer}
use Rattle.rules.specs.Access.{is_operator, with_right, called_by, asked_by, unit_by, LookAnswer, look}
use Rattle.told.specs.Status.{StatusAnswer, status_asks, status_answer, reason}
use Rattle.desks.specs.Desk.{plan, simulated}
use Rattle.desks.specs.Simulation.{Tried, simulation_asks, tried_answer, outcome}

-- the operator alone may ask for the reason that a unit has not come, and for a simulation
unfoldable pub status_by : Caller → Book → ℕ → ℕ → StatusAnswer
status_by w b i k =
    status_answer (first_no (with_right (is_operator w) (ask_sound b ∷ status_asks b.state.phase (order_of b) i k)))
    (reason b.state.phase (order_of b i) (delivered_total b.delivered i) k)

unfoldable pub simulation_by : Caller → Book → List ℕ → List ℕ → ℕ → Tried
simulation_by w b settles inventories size =
    tried_answer (first_no (with_right (is_operator w) (simulation_asks (sound b) settles inventories size)))
    (outcome (plan b.nets settles size) (simulated (plan b.nets settles size) inventories))

-- a call (trade, close, deliver, ask, commit, cutoff, resolve, pair-off, roll, mark, turn) with the output beside it; the ticket
-- that asking gives; a unit; why it has not come; a simulation; an account read
pub data Request : Type 0 where
  make : Call → List ℕ → Request
  ask_for : ℕ → ℕ → Request
  unit_of : ℕ → ℕ → Request
  status_of : ℕ → ℕ → Request
  simulate : List ℕ → List ℕ → ℕ → Request
  read : ℕ → ℕ → ℕ → Request

-- what a caller is told: of a call the operator all of its answer, any other the refusal number only
pub data Reply : Type 0 where
  number : ℕ → Reply
  whole : Answer → Reply
  ticket : AskAnswer → Reply
  a_unit : UnitAnswer → Reply
  a_status : StatusAnswer → Reply
  a_trial : Tried → Reply
  an_account : LookAnswer → Reply

abbrev pub told : Caller → Answer → Reply
told w r = cond (is_operator w) (whole r) (number r.refusal)

abbrev pub reply : Caller → Book → Request → Reply
reply w b (make c out) = told w (called_by w b c out)
reply w b (ask_for i k) = ticket (asked_by w b i k)
reply w b (unit_of i k) = a_unit (unit_by w b i k)
reply w b (status_of i k) = a_status (status_by w b i k)
reply w b (simulate settles inventories size) = a_trial (simulation_by w b settles inventories size)
reply w b (read i a k) = an_account (look w b i a k)

-- the book after a request: only a call changes it
abbrev pub after_request : Caller → Book → Request → Book
after_request w b (make c out) = (called_by w b c out).book
after_request w b (ask_for i k) = b
after_request w b (unit_of i k) = b
after_request w b (status_of i k) = b
after_request w b (simulate settles inventories size) = b
after_request w b (read i a k) = b
