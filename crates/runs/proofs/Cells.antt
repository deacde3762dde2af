-- Nets, delivered lots and lifts of a sound book: the rows of an issue, their bounds and their order.
use mathlib.Core.Path.{◌≡◌, sym, ◌∙◌}
use mathlib.Core.Bool.{true, false}
use mathlib.Core.List.{List, [], ◌∷◌, map}
use Prim.Native.Nat.{ℕ, ◌-◌, ◌+◌, ◌*◌, ◌≤◌, ◌<◌}
use native.Mathlib.Omega.{arith}
use lib.ListN.{length, get_or, take, drop}
use lib.IntN.{ℤ, pos, nat_abs}
use borrow.Author.Tests.{leb-true, le-leb}
use Rattle.rules.specs.declared.Book.{Book}
use Rattle.rules.specs.Measures.{most_lots, sum, due_of, owed_of}
use Rattle.rules.specs.Book.{all, sound, row, within_size, dues_of, obligations_of, delivered_total, lifts_at, order_in, order_of, dealt_today}
use Rattle.laws.proofs.Basics.{Every, each_map, each_take, each_drop}
use Rattle.laws.proofs.Signed.{size_of_lem}
use Rattle.laws.proofs.Fails.{each_of_map}
use Rattle.laws.proofs.Cutoff.{SoundRow, delivered_due}
use Rattle.laws.proofs.Cells.{length_row, within_row}
use Rattle.laws.proofs.Sound.{SoundBook, sound_parts, all_each, each_all, each_get_or, within_at, parts_balanced, places_among}
use Rattle.laws.proofs.SoundRows as books
use Rattle.laws.proofs.Dealt.{same_length}
use Rattle.book.specs.Cells.{OwedCells, SoundCells}
use Rattle.runs.specs.Runs.{CanOrder}

-- an issue's row, cut out of a column
pub row_part : {A : Type 0} (l : List A) (i : ℕ) → take (i * 64 + 64 - i * 64) (drop (i * 64) l) ≡ row i l
row_part l i = let e : i * 64 + 64 - i * 64 ≡ 64 = omega arith in rw e

-- the cells of a sound book
parts_sized : (b : Book) → SoundBook b → all (within_size most_lots) b.nets ≡ true
parts_sized b s =
    each_all (within_size most_lots) b.nets
    (each_map (λ m. nat_abs m ≤ most_lots) (λ m. within_size most_lots m ≡ true) (λ m h. le-leb _ _ h) b.nets s.size)

pub nets_sized : (b : Book) → sound b ≡ true → all (within_size most_lots) b.nets ≡ true
nets_sized b h = parts_sized b (sound_parts b h)

sized : (nets : List ℤ) → all (within_size most_lots) nets ≡ true → Every (λ m. nat_abs m ≤ most_lots) nets
sized nets s =
    each_map (λ m. within_size most_lots m ≡ true) (λ m. nat_abs m ≤ most_lots) (λ m h. leb-true _ _ h) nets
    (all_each (within_size most_lots) nets s)

-- each net of an issue is in bounds, and so is what is due or owed
module _ (nets : List ℤ) (i : ℕ) (s : all (within_size most_lots) nets ≡ true) where
  pub row_sized : Every (λ m. nat_abs m ≤ most_lots) (row i nets)
  row_sized =
      each_take (λ m. nat_abs m ≤ most_lots) 64 (drop (i * 64) nets)
      (each_drop (λ m. nat_abs m ≤ most_lots) (i * 64) nets (sized nets s))

  pub owed_sized : Every (λ x. x ≤ most_lots) (obligations_of nets i)
  owed_sized =
      each_of_map (λ x. x ≤ most_lots) owed_of (row i nets)
      (each_map (λ m. nat_abs m ≤ most_lots) (λ m. owed_of m ≤ most_lots) (λ m p. omega (arith, size_of_lem m)) (row i nets) row_sized)

  pub dues_sum : length nets ≡ 1024 → i < 16 → sum (dues_of nets i) ≤ most_lots * 64
  dues_sum n h = omega (arith, bound (row i nets) row_sized, length_row nets i n h)
    where
      bound : (ns : List ℤ) → Every (λ m. nat_abs m ≤ most_lots) ns → sum (map due_of ns) ≤ most_lots * length ns
      bound [] ps = omega arith
      bound (m ∷ ms) ps = omega (arith, size_of_lem m, ps.0, bound ms ps.1)

pub sound_cells : (b : Book) → SoundBook b → length b.nets ≡ 1024 → length b.delivered ≡ 1024 → length b.lifts ≡ 288 →
    SoundCells b.nets b.delivered b.lifts
sound_cells b s n d l =
    record {
      cells = n;
      both = d;
      lifted = l;
      size = parts_sized b s;
      balance = λ i h. parts_balanced (row i b.nets) (s.rows i h);
      owed = s.owed;
      few = λ i h. (s.lifts i h).few;
      places = λ i h.
          rw (same_length (order_of b i) (order_in false b.nets b.lifts i) (books.order_lots (dealt_today b) b.nets b.lifts i))
          at (places_among _ _ 0 (lifts_at b.lifts i) (s.lifts i h).places);
      counted = λ i h. omega (arith, (s.lifts i h).count, (s.lifts i h).few, books.total_due b s n d i h, dues_sum b.nets i (parts_sized b s) n h);
    }

-- its issues can be ordered
pub can_order : (nets : List ℤ) (delivered lifts : List ℕ) (i : ℕ) → SoundCells nets delivered lifts → i < 16 → CanOrder nets lifts i
can_order nets delivered lifts i s h =
    record { cells = s.cells; lifted = s.lifted; issue = h; size = s.size; few = s.few i h; places = s.places i h }

pub owed_cells : (nets : List ℤ) (delivered lifts : List ℕ) → SoundCells nets delivered lifts → OwedCells nets delivered
owed_cells nets delivered lifts s = record { cells = s.cells; both = s.both; size = s.size; owed = s.owed }

-- what is delivered of a cell is within 20,000,000
pub cell_owed : (nets : List ℤ) (delivered : List ℕ) → OwedCells nets delivered → (k : ℕ) → get_or delivered k 0 ≤ most_lots
cell_owed nets delivered s k =
    omega (
      arith,
      within_at nets delivered k (s.cells ∙ sym s.both) s.owed,
      size_of_lem (get_or nets k (pos 0)),
      each_get_or (λ m. nat_abs m ≤ most_lots) nets k (pos 0) (sized nets s.size) (omega arith),
    )

-- an issue of a sound book
module _ (nets : List ℤ) (delivered lifts : List ℕ) (s : SoundCells nets delivered lifts) (i : ℕ) (h : i < 16) where
  pub sound_row : SoundRow (row i nets) (row i delivered)
  sound_row =
      record {
        lengths = length_row nets i s.cells h ∙ sym (length_row delivered i s.both h);
        balance = s.balance i h;
        owed = within_row i nets delivered s.owed;
      }

  -- what is delivered is at most what is due
  pub total_due : delivered_total delivered i ≤ sum (dues_of nets i)
  total_due = delivered_due (row i nets) (row i delivered) sound_row

  -- and fits a word
  pub total_small : delivered_total delivered i < 4294967296
  total_small = omega (arith, total_due, dues_sum nets i s.size s.cells h)
