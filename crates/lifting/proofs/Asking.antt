-- Questions 3, 4 and 16, and the ticket.
use mathlib.Core.Path.{◌≡◌}
use mathlib.Core.Bool.{Bool, true, false}
use mathlib.Core.List.{List}
use Prim.Native.Nat.{ℕ, ◌≤◌, ◌<◌}
use lib.IntN.{ℤ}
use borrow.Author.Tests.{le-leb, lt-leb}
use Rattle.rules.specs.declared.Phase.{Phase}
use Rattle.rules.specs.Handover.{covered}
use Rattle.rules.specs.Book.{is_settling, delivered_total, count_at, order_in}
use Rattle.rules.specs.Calls.{no_ticket}
use Rattle.tickets.specs.Tickets.{unhanded_ticket}
use Rattle.lifting.specs.Lifting.{asked_of}

module _ (new : Bool) (phase : Phase) (today : ℕ) (nets : List ℤ) (delivered lifts : List ℕ) (i k : ℕ) where
  pub not_settling : is_settling phase ≡ false → no_ticket 3 ≡ asked_of new phase today nets delivered lifts i k
  unfolding asked_of
  not_settling e = simp e

  pub no_issue : is_settling phase ≡ true → 15 < i → no_ticket 4 ≡ asked_of new phase today nets delivered lifts i k
  unfolding asked_of
  no_issue e l = simp (e, lt-leb i 15 l)

  pub asked_unit : (h : ℕ) → h ≡ covered (order_in new nets lifts i) (delivered_total delivered i) → is_settling phase ≡ true → i ≤ 15 →
      unhanded_ticket (order_in new nets lifts i) h today (count_at lifts i) i k ≡ asked_of new phase today nets delivered lifts i k
  unfolding asked_of unhanded_ticket
  asked_unit h q e l = rw (q, e, le-leb i 15 l)
