-- The columns of a book laid one behind the other, in two parts.
use Rattle.std.specs.Prelude.{Ok}
use Rattle.std.specs.Prelude.{◌≡◌, true, List, [], ◌∷◌, map, ℕ, ◌+◌, ◌≤◌, length}
use Rattle.rules.specs.declared.Book.{Book}
use Rattle.rules.specs.declared.State.{State}
use Rattle.rules.specs.Book.{sound, CellLengths, LedgerLengths}
use Rattle.columns.specs.declared.SharedColumns.{SharedColumns}
use Rattle.columns.specs.Books.{shared_book, SharedLengths}
use Rattle.snapshots.specs.Words.{phase_word, signed_word, long_words, entry_words, InRange}
use Rattle.snapshots.specs.Snapshot.{snapshot_words, saved, opened}

abbrev pub cell_columns : State → SharedColumns → List (List ℕ)
cell_columns s c =
    (s.day ∷ phase_word s.phase ∷ s.entries ∷ s.turn ∷ [])
    ∷ s.marks
    ∷ map signed_word c.nets.now
    ∷ c.delivered.now
    ∷ c.lifts.now
    ∷ long_words c.charges.now
    ∷ []

abbrev pub ledger_columns : SharedColumns → List (List ℕ)
ledger_columns c = entry_words c.issues.now c.froms.now c.tos.now c.days.now ∷ c.lots.now ∷ []

-- entries of columns of one length, whose numbers fit, and room for them
pub record CanPack (is fs ts ds out : List ℕ) (at : ℕ) : Type 0 where
  pub froms : length fs ≡ length is
  pub tos : length ts ≡ length is
  pub days : length ds ≡ length is
  pub range : InRange is fs ts ds
  pub room : at + length is ≤ length out

-- columns of a book's lengths, and room for its words
pub record CanPut (s : State) (c : SharedColumns) (out : List ℕ) : Type 0 where
  pub cells : CellLengths c.nets.now c.delivered.now
  pub lift_words : length c.lifts.now ≡ 288
  pub accounts : length c.charges.now ≡ 64
  pub sixteen : length s.marks ≡ 16
  pub few : s.entries ≤ 2048
  pub room : length out ≡ snapshot_words

pub record CanPutLedger (c : SharedColumns) (out : List ℕ) : Type 0 where
  pub lengths : LedgerLengths c.issues.now c.froms.now c.tos.now c.lots.now c.days.now
  pub range : InRange c.issues.now c.froms.now c.tos.now c.days.now
  pub room : length out ≡ snapshot_words

-- a sound book, and room for its words
pub record CanSave (s : State) (c : SharedColumns) (out : List ℕ) : Type 0 where
  pub lengths : SharedLengths c
  pub sound : sound (shared_book s c) ≡ true
  pub room : length out ≡ snapshot_words

-- the words are the book's, and are opened as this book
pub record Saves (b : Book) (ws : List ℕ) : Type 0 where
  pub words : ws ≡ saved b
  pub again : opened ws ≡ Ok b
