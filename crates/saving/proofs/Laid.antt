-- The columns of a book laid one behind the other, in two parts, are its words.
use mathlib.Core.Path.{◌≡◌, refl, sym, ap, ◌∙◌}
use mathlib.Core.List.{List, [], ◌∷◌, ◌++◌, map, append_assoc}
use Prim.Native.Nat.{ℕ, ◌+◌}
use native.Mathlib.Omega.{arith}
use lib.ListN.{length, drop, length-map, length-append}
use lib.Seq.{sets}
use Rattle.rules.specs.declared.Book.{Book}
use Rattle.rules.specs.declared.State.{State}
use Rattle.rules.specs.Measures.{sum}
use Rattle.rules.specs.Book.{LedgerLengths}
use Rattle.laws.proofs.Sound.{sound_parts}
use Rattle.snapshots.specs.Words.{signed_word, long_words, entry_words, joined}
use Rattle.snapshots.specs.Snapshot.{seal, saved, Typed}
use Rattle.snapshots.proofs.Words.{longs_length, length_joined, entries_length}
use Rattle.snapshots.proofs.Ranges.{ranges}
use Rattle.snapshots.proofs.Theorems.{saved_opened}
use Rattle.columns.specs.declared.SharedColumns.{SharedColumns}
use Rattle.columns.specs.Books.{shared_book}
use Rattle.saving.specs.Laying.{cell_columns, ledger_columns, CanPut, CanPutLedger, CanSave, Saves}
use Rattle.saving.proofs.Loops.{sets_append, behind_three}

joined_append : (cs ds : List (List ℕ)) → joined cs ++ joined ds ≡ joined (cs ++ ds)
joined_append [] ds = refl
joined_append (c ∷ cs) ds = append_assoc c (joined cs) (joined ds) ∙ ap (λ l. c ++ l) (joined_append cs ds)

abbrev pub cell_widths : List ℕ
cell_widths = 4 ∷ 16 ∷ 1024 ∷ 1024 ∷ 288 ∷ 128 ∷ []

abbrev pub ledger_widths : List ℕ
ledger_widths = 2048 ∷ 2048 ∷ []

pub ledger_widths_lem : (c : SharedColumns) → LedgerLengths c.issues.now c.froms.now c.tos.now c.lots.now c.days.now →
    map length (ledger_columns c) ≡ ledger_widths
ledger_widths_lem c n =
    let e : length (entry_words c.issues.now c.froms.now c.tos.now c.days.now) ≡ 2048 =
    entries_length c.issues.now c.froms.now c.tos.now c.days.now ∙ n.issues in
    rw (e, n.lots)

module _ (s : State) (c : SharedColumns) where
  pub cell_widths_lem : (out : List ℕ) → CanPut s c out → map length (cell_columns s c) ≡ cell_widths
  cell_widths_lem out p =
      let l : length (long_words c.charges.now) ≡ 128 = omega (arith, longs_length c.charges.now, p.accounts) in
      let n : length (map signed_word c.nets.now) ≡ 1024 = length-map c.nets.now signed_word ∙ p.cells.nets in
      rw (p.sixteen, n, p.cells.delivered, p.lift_words, l)

  module _ (out : List ℕ) (p : CanSave s c out) where
    abbrev saving : Book
    saving = shared_book s c

    pub can_put : length s.marks ≡ 16 → CanPut s c out
    can_put n =
        record {
          cells = p.lengths.cells;
          lift_words = p.lengths.lifts;
          accounts = p.lengths.charges;
          sixteen = n;
          few = (sound_parts saving p.sound).ledger.count;
          room = p.room;
        }

    saved_laid : length s.marks ≡ 16 →
        seal
        (drop 3 (sets (sets out 3 (joined (cell_columns s c))) 2487 (joined (ledger_columns c))))
        ≡ saved saving
    unfolding saved
    saved_laid marked =
        let cs = cell_columns s c in
        let ds = ledger_columns c in
        let n : length (joined cs) ≡ 2484 = length_joined cs ∙ ap sum (cell_widths_lem out (can_put marked)) in
        let m : length (joined ds) ≡ 4096 = length_joined ds ∙ ap sum (ledger_widths_lem c p.lengths.ledger) in
        let a : 3 + length (joined cs) ≡ 2487 = omega (arith, n) in
        let j : joined cs ++ joined ds ≡ joined (cs ++ ds) = joined_append cs ds in
        let k : length (joined (cs ++ ds)) ≡ 6580 = ap length (sym j) ∙ length-append (joined cs) (joined ds) ∙ omega (arith, n, m) in
        ap (λ o. seal (drop 3 o))
        (ap (λ i. sets (sets out 3 (joined cs)) i (joined ds)) (sym a) ∙ sets_append (joined cs) (joined ds) out 3 ∙ ap (sets out 3) j)
        ∙ ap seal (behind_three out (joined (cs ++ ds)) (omega (arith, p.room, k)))

    module _ (t : Typed saving) where
      pub can_put_ledger : (after : List ℕ) → length after ≡ length out → CanPutLedger c after
      can_put_ledger after e =
          record { lengths = p.lengths.ledger; range = (ranges saving t p.sound).entered; room = e ∙ p.room }

      -- the words that were laid down are the book's
      pub laid : (after : List ℕ) →
          after
          ≡ seal (drop 3 (sets (sets out 3 (joined (cell_columns s c))) 2487 (joined (ledger_columns c)))) →
          Saves saving after
      laid after e =
          let w = e ∙ saved_laid t.sixteen in
          record { words = w; again = rw w (saved_opened saving t p.sound) }
