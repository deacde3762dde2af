-- What the cutoff in place asks of a sound book's columns.
use mathlib.Core.Path.{◌≡◌}
use mathlib.Core.Bool.{Bool}
use mathlib.Core.List.{List, [], ◌∷◌}
use Prim.Native.Nat.{ℕ, ◌+◌, ◌≤◌}
use lib.Dec.{leb}
use lib.ListN.{length}
use borrow.Author.Tests.{leb-true}
use Rattle.rules.specs.declared.Book.{Book}
use Rattle.rules.specs.Measures.{most_entries, output_words}
use Rattle.rules.specs.Book.{is_settling, order_in, LedgerLengths}
use Rattle.rules.specs.Questions.{first_no, ask_entries}
use Rattle.rules.specs.Calls.{new_entries, cutoff_asks}
use Rattle.laws.proofs.Sound.{SoundBook, parts_sound}
use Rattle.ledger.proofs.Books.{book_held}
use Rattle.book.specs.Cells.{SoundCells}
use Rattle.laws.proofs.Answers.{yes}
use Rattle.cutting.specs.Write.{Lent, lent}
use Rattle.cutoff.specs.All.{CanCutAll}

-- a book's columns with an output
abbrev pub columns_of : Book → List ℕ → Lent
columns_of b o = lent b.issues b.froms b.tos b.lots b.days o

module _ (new : Bool) (b : Book) (s : SoundBook b) where
  pub can_cut_all : (o : List ℕ) → SoundCells b.nets b.delivered b.lifts →
      LedgerLengths b.issues b.froms b.tos b.lots b.days → output_words ≤ length o →
      first_no (cutoff_asks b.state.phase b.state.entries (length (new_entries b.state.day (order_in new b.nets b.lifts) b.nets b.delivered))) ≡ 0 →
      CanCutAll new b.nets b.delivered b.lifts b.state.day b.state.entries (columns_of b o)
  can_cut_all o c f h q =
      let n = length (new_entries b.state.day (order_in new b.nets b.lifts) b.nets b.delivered) in
      let y3 = yes 2 (is_settling b.state.phase) (ask_entries b.state.entries n ∷ []) q in
      record {
        sound = c;
        held = book_held b (parts_sound b s) (record { issues = f.issues; froms = f.froms; tos = f.tos; lotss = f.lots; dayss = f.days });
        most = leb-true (b.state.entries + n) most_entries (yes 9 (leb (b.state.entries + n) most_entries) [] y3.others).first;
        room = h;
      }
