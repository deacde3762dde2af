-- What a delivery may assume gives what its issue's part may: room for the records of at most 264 units.
use mathlib.Core.Path.{◌≡◌, sym, ap, ◌∙◌}
use mathlib.Core.Bool.{Bool}
use mathlib.Core.List.{List}
use Prim.Native.Nat.{ℕ, ◌+◌, ◌*◌, ◌≤◌, ◌<◌}
use native.Mathlib.Omega.{arith}
use lib.Dec.{lit<}
use lib.ListN.{get_or, set, drop, length-set}
use lib.Seq.{get_or-take, get_or-drop}
use lib.IntN.{ℤ}
use Rattle.rules.specs.Measures.{sum}
use Rattle.rules.specs.Units.{AccountLots}
use Rattle.rules.specs.Book.{row, cell, dues_of, delivered_total, order_in}
use Rattle.rules.specs.Calls.{raised_delivered, raised_count}
use Rattle.laws.proofs.Cells.{length_row, length_dues, delivered_rises, within_row, within_set}
use Rattle.laws.proofs.Cutoff.{SoundRow, delivered_due}
use Rattle.laws.proofs.SoundRows.{order_in_lem}
use Rattle.laws.proofs.Room.{handovers_few}
use Rattle.book.specs.Cells.{SoundCells}
use Rattle.runs.proofs.Cells.{dues_sum, can_order, owed_cells, cell_owed}
use Rattle.serving.specs.Serving.{CanServe, Served}
use Rattle.delivery.specs.Deliver.{CanRaise, CanDeliver}

-- the store at an issue's count
pub raised_count_lem : (lifts : List ℕ) (i : ℕ) → set lifts (i * 18 + 1) (get_or lifts (i * 18 + 1) 0 + 1) ≡ raised_count lifts i
raised_count_lem lifts i =
    ap (λ n. set lifts (i * 18 + 1) (n + 1))
    (sym (get_or-take 18 (drop (i * 18) lifts) 1 0 (lit< tt) ∙ get_or-drop (i * 18) lifts 1 0))

-- and that it is within the word
pub count_fits : (nets : List ℤ) (delivered lifts : List ℕ) (i : ℕ) → SoundCells nets delivered lifts → i < 16 →
    get_or lifts (i * 18 + 1) 0 + 1 < 4294967296
count_fits nets delivered lifts i s h =
    omega (arith, s.counted i h, get_or-take 18 (drop (i * 18) lifts) 1 0 (lit< tt), get_or-drop (i * 18) lifts 1 0)

-- so the delivery's numbers can rise
pub can_raise : (nets : List ℤ) (delivered lifts out : List ℕ) (i a x : ℕ) → CanDeliver nets delivered lifts i a x out → CanRaise delivered lifts i a x
can_raise nets delivered lifts out i a x can =
    let s = can.sound in
    record {
      cell = omega (arith, s.both, s.cells, can.issue, can.account);
      lots = omega (arith, cell_owed nets delivered (owed_cells nets delivered lifts s) (i * 64 + a), can.lots);
      word = omega (arith, s.lifted, can.issue);
      count = count_fits nets delivered lifts i s can.issue;
    }

-- what is served after a total that is another by name
pub served_after : (us : List AccountLots) (i d e x : ℕ) (before after : List ℕ) (r : ℕ) → d ≡ e →
    Served us i d x before after r → Served us i e x before after r
served_after us i d e x before after r q s = rw (← q) s

module _ (new : Bool) (nets : List ℤ) (delivered lifts out : List ℕ) (i a x : ℕ) (can : CanDeliver nets delivered lifts i a x out) where
  -- the account's lots raised, the issue is one of a sound book
  raised : SoundRow (row i nets) (row i (raised_delivered delivered i a x))
  raised =
      let s = can.sound in
      let n = length-set delivered (cell i a) _ ∙ s.both in
      record {
        lengths = length_row nets i s.cells can.issue ∙ sym (length_row (raised_delivered delivered i a x) i n can.issue);
        balance = s.balance i can.issue;
        owed = within_row i nets (raised_delivered delivered i a x) (within_set nets delivered (cell i a) _ s.owed can.owed);
      }

  due : delivered_total delivered i + x ≤ sum (dues_of nets i)
  due =
      omega (
        arith,
        delivered_rises delivered i a x can.sound.both can.issue can.account,
        delivered_due (row i nets) (row i (raised_delivered delivered i a x)) raised,
      )

  pub can_serve : (d : ℕ) → d ≡ delivered_total delivered i → CanServe new nets lifts i d x out
  can_serve d e =
      let s = can.sound in
      record {
        order = can_order nets delivered lifts i s can.issue;
        small = omega (arith, due, dues_sum nets i s.size s.cells can.issue);
        few =
            handovers_few (dues_of nets i) (order_in new nets lifts i) d x (order_in_lem new nets lifts i) (length_dues nets i s.cells can.issue) can.lots
            (omega (arith, due));
        room = omega (arith, can.room);
      }
