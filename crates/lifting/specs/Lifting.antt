-- What asking for a lift and committing it may assume, and what they do.
use Rattle.std.specs.Prelude.{◌≡◌, Bool, List, ℕ, length, ℤ, Result, Ok, Err}
use Rattle.rules.specs.declared.Phase.{Phase}
use Rattle.rules.specs.declared.Refusal.{Refusal}
use Rattle.rules.specs.declared.Ticket.{Ticket}
use Rattle.rules.specs.Book.{order_in}
use Rattle.rules.specs.Records.{words, over}
use Rattle.rules.specs.Questions.{first_no}
use Rattle.rules.specs.Refusals.{number_in}
use Rattle.rules.specs.Calls.{AskAnswer, ticket_answer, ticket_of, lift_asks, commit_asks, commit_lift, commit_records, with_lift}

-- an ask's questions after soundness, and its ticket, in the new order or the old
unfoldable pub asked_of : Bool → Phase → ℕ → List ℤ → List ℕ → List ℕ → ℕ → ℕ → AskAnswer
asked_of new phase today nets delivered lifts i k =
    ticket_answer (first_no (lift_asks phase (order_in new nets lifts) delivered i k)) (ticket_of today (order_in new nets lifts) lifts i k)

-- a refused commit changes nothing
pub record Refuses (lifts lifts' out out' : List ℕ) : Type 0 where
  pub column : lifts' ≡ lifts
  pub output : out' ≡ out

-- an accepted one lifts the unit and writes its records, n in number
pub record Lifts (new : Bool) (nets : List ℤ) (delivered lifts lifts' : List ℕ) (t : Ticket) (out out' : List ℕ) (n : ℕ) : Type 0 where
  pub count : n ≡ length (commit_records (order_in new nets lifts) delivered t)
  pub column : lifts' ≡ with_lift lifts t.issue (commit_lift (order_in new nets lifts) delivered t)
  pub output : out' ≡ over (words (commit_records (order_in new nets lifts) delivered t)) out

abbrev pub lifts_or_refuses : Bool → List ℤ → List ℕ → List ℕ → List ℕ → Ticket → List ℕ → List ℕ → Result ℕ Refusal → Type 0
lifts_or_refuses new nets delivered lifts lifts' t out out' (Ok n) = Lifts new nets delivered lifts lifts' t out out' n
lifts_or_refuses new nets delivered lifts lifts' t out out' (Err e) = Refuses lifts lifts' out out'

-- in the new order or the old
pub record Commits (new : Bool) (phase : Phase) (today : ℕ) (nets : List ℤ) (delivered lifts lifts' : List ℕ) (t : Ticket) (out out' : List ℕ) (r : Result ℕ Refusal) : Type 0 where
  pub refusal : number_in r ≡ first_no (commit_asks phase today (order_in new nets lifts) delivered lifts t)
  pub change : lifts_or_refuses new nets delivered lifts lifts' t out out' r
