-- A sound book's ledger lies in its columns, and its entries are sound.
use mathlib.Core.Path.{◌≡◌, sym}
use mathlib.Core.Bool.{true}
use mathlib.Core.List.{List}
use Prim.Native.Nat.{ℕ}
use Rattle.rules.specs.declared.Book.{Book}
use Rattle.rules.specs.Book.{all, entry_sound, ledger_of, sound, LedgerLengths}
use Rattle.laws.proofs.Basics.{each_map}
use Rattle.laws.proofs.Sound.{SoundEntry, sound_parts, parts_entry, each_all}
use Rattle.laws.proofs.Ledger.{columns_back}
use Rattle.ledger.specs.Columns.{Whole, Held}

-- the lengths of the ledger's columns, one by one
pub whole : (is fs ts xs ds : List ℕ) → LedgerLengths is fs ts xs ds → Whole is fs ts xs ds
whole is fs ts xs ds l = record { issues = l.issues; froms = l.froms; tos = l.tos; lotss = l.lots; dayss = l.days }

module _ (b : Book) (s : sound b ≡ true) where
  pub book_held : Whole b.issues b.froms b.tos b.lots b.days →
      Held b.state.entries b.issues b.froms b.tos b.lots b.days
  book_held w =
      let g = sound_parts b s in
      let full : LedgerLengths b.issues b.froms b.tos b.lots b.days =
      record { issues = w.issues; froms = w.froms; tos = w.tos; lots = w.lotss; days = w.dayss } in
      let back = columns_back b.state.day b.state.entries b.issues b.froms b.tos b.lots b.days g.ledger full in
      record {
        most = g.ledger.count;
        whole = w;
        columns =
            record {
              issues = sym back.issues;
              froms = sym back.froms;
              tos = sym back.tos;
              lotss = sym back.lots;
              dayss = sym back.days;
            };
      }

  pub book_entries : all entry_sound (ledger_of b) ≡ true
  book_entries =
      each_all entry_sound (ledger_of b)
      (each_map SoundEntry (λ e. entry_sound e ≡ true) parts_entry (ledger_of b) (sound_parts b s).ledger.each)
