-- The invariant of demand 3: the tally's numbers beside the book's. Today's nets are bought less sold,
-- given is what the book has as delivered, an issue's row of 10s is a front of its units, by phase, and its lifts are the book's.
-- The balance is said in natural numbers, with terms on both sides.
use mathlib.Core.Path.{◌≡◌}
use mathlib.Core.List.{List, [], ◌++◌}
use Prim.Native.Nat.{ℕ, ◌+◌, ◌≤◌, ◌<◌}
use lib.ListN.{length}
use Rattle.rules.specs.declared.Phase.{Phase}
use Rattle.rules.specs.declared.Phase.TheVariants.{Taking, Settling, Cut}
use Rattle.rules.specs.Measures.{total, due_of, owed_of}
use Rattle.rules.specs.Units.{AccountLots, sum_lots, of_account}
use Rattle.rules.specs.Handover.{handed, partials}
use Rattle.rules.specs.Ledger.{is_from, is_to, lots_of}
use Rattle.rules.specs.Book.{is_settling, net_at, delivered_at, delivered_total, lifts_at, order_of, ledger_of}
use Rattle.rules.specs.Calls.{Call, Answer, Effect}
use Rattle.rules.specs.Tally.{Tallied, counted, settling_after, answered}

-- an issue's 10s after a cutoff: the units handed, and the stock to the next
abbrev pub cut_row : List AccountLots → ℕ → List AccountLots
cut_row us d = handed us d ++ partials us d

-- an issue's row of 10s beside its units, by phase and delivered total
abbrev pub RowIs : Phase → List AccountLots → ℕ → List AccountLots → Type 0
RowIs Taking us d row = (row ≡ []) × (d ≡ 0)
RowIs Settling us d row = (row ≡ handed us d) × (d ≤ sum_lots us)
RowIs Cut us d row = (row ≡ cut_row us d) × (d ≤ sum_lots us)

pub record Inv (s : Tallied) : Type 0 where
  pub size_nets : length s.book.nets ≡ 1024
  pub size_delivered : length s.book.delivered ≡ 1024
  pub size_lifts : length s.book.lifts ≡ 288
  pub size_charges : length s.book.charges ≡ 64
  pub nets : (i a : ℕ) → i < 16 → a < 64 →
      due_of (net_at s.book.nets i a) + s.tally.today.sold i a
      ≡ s.tally.today.bought i a + owed_of (net_at s.book.nets i a)
  pub given : (i a : ℕ) → i < 16 → a < 64 → s.tally.today.given i a ≡ delivered_at s.book.delivered i a
  pub handed : (i a : ℕ) → s.tally.today.handed i a ≡ total (of_account a) (s.tally.rows i)
  pub phase : s.settling ≡ is_settling s.book.state.phase
  pub rows : (i : ℕ) → i < 16 →
      RowIs s.book.state.phase (order_of s.book i) (delivered_total s.book.delivered i) (s.tally.rows i)
  pub lifts : (i : ℕ) → i < 16 → s.tally.lifts i ≡ lifts_at s.book.lifts i
  pub day : s.tally.day ≡ s.book.state.day
  pub turn : s.tally.turn ≡ s.book.state.turn
  pub balance : (i a : ℕ) → i < 16 → a < 64 →
      s.tally.in_all.bought i a + s.tally.in_all.given i a + lots_of (is_from i a) (ledger_of s.book)
      ≡ s.tally.in_all.sold i a + s.tally.in_all.handed i a + lots_of (is_to i a) (ledger_of s.book)
  pub charges : total due_of s.book.charges ≡ total owed_of s.book.charges

-- the state after a call that was not refused, of what it did
abbrev pub did : Call → Effect → Tallied → Tallied
did c e s =
    record { book = e.book; tally = counted c e.records s.tally; settling = settling_after c s.settling }

-- what is to be shown of a call's answer
abbrev pub Keeps : Call → Tallied → Answer → Type 0
Keeps c s r = Inv (answered c r s)
