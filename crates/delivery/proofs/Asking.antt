-- What a sound book with what is lent gives; and where no question of a delivery is answered 'no', the delivery in place can be made.
use mathlib.Core.Path.{◌≡◌, sym}
use mathlib.Core.List.{List}
use Prim.Native.Nat.{ℕ, ◌+◌, ◌≤◌}
use native.Mathlib.Omega.{arith}
use lib.Dec.{leb}
use lib.ListN.{length}
use lib.IntN.{ℤ}
use borrow.Author.Tests.{leb-true}
use Rattle.rules.specs.declared.Phase.{Phase}
use Rattle.rules.specs.declared.State.{State}
use Rattle.rules.specs.Measures.{most_lots, output_words, lift_cells, owed_of}
use Rattle.rules.specs.Book.{net_at, delivered_at, CellLengths}
use Rattle.rules.specs.Questions.{first_no}
use Rattle.rules.specs.Calls.{deliver_asks}
use Rattle.laws.proofs.Basics.{and_right}
use Rattle.book.specs.Cells.{SoundCells}
use Rattle.laws.proofs.Answers.{all_yes}
use Rattle.laws.proofs.Sound.{sound_parts}
use Rattle.runs.proofs.Cells.{sound_cells}
use Rattle.answers.specs.Turns.{SomeSound, within_cells}
use Rattle.delivery.specs.Deliver.{CanDeliver}

can_deliver : (phase : Phase) (marks : List ℕ) (nets : List ℤ) (delivered lifts : List ℕ) (i a x : ℕ) (out : List ℕ) → SoundCells nets delivered lifts →
    first_no (deliver_asks phase marks nets delivered i a x) ≡ 0 → output_words ≤ length out → CanDeliver nets delivered lifts i a x out
can_deliver phase marks nets delivered lifts i a x out s h long =
    let y = (all_yes (deliver_asks phase marks nets delivered i a x) (omega arith) h).1 in
    record {
      sound = s;
      issue = omega (arith, leb-true i 15 y.0);
      account = omega (arith, leb-true a 63 y.1.0);
      lots = leb-true x most_lots (and_right (leb 1 x) (leb x most_lots) y.1.1.0);
      owed = leb-true (delivered_at delivered i a + x) (owed_of (net_at nets i a)) y.1.1.1.1.0;
      room = long;
    }

-- of some sound book with the columns that are lent
pub ready_cells : (s : State) (nets : List ℤ) (delivered lifts : List ℕ) → CellLengths nets delivered → length lifts ≡ lift_cells →
    SomeSound (within_cells s nets delivered lifts) → SoundCells nets delivered lifts
ready_cells s nets delivered lifts n l some =
    let b = within_cells s nets delivered lifts some.rest in
    sound_cells b (sound_parts b some.sound) n.nets n.delivered l

-- so where the columns are lent and no question is answered 'no'
module _ (s : State) (nets : List ℤ) (delivered lifts : List ℕ) (i a x : ℕ) (n : CellLengths nets delivered) (l : length lifts ≡ lift_cells)
    (some : SomeSound (within_cells s nets delivered lifts)) (h : 0 ≡ first_no (deliver_asks s.phase s.marks nets delivered i a x)) where
  pub asked : (out : List ℕ) → output_words ≤ length out → CanDeliver nets delivered lifts i a x out
  asked out long = can_deliver s.phase s.marks nets delivered lifts i a x out (ready_cells s nets delivered lifts n l some) (sym h) long
