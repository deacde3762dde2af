-- A sound book's issues: each row of nets and delivered lots is sound, so that what is proved of a row holds of
-- every issue of the book.
use mathlib.Core.Path.{◌≡◌, sym, ◌∙◌, refl}
use mathlib.Core.Bool.{Bool, false}
use mathlib.Core.List.{List}
use Prim.Native.Nat.{ℕ, ◌*◌, ◌≤◌, ◌<◌}
use native.Mathlib.Omega.{arith}
use lib.IntN.{ℤ, nat_abs}
use lib.ListN.{length, drop}
use Rattle.rules.specs.declared.Book.{Book}
use Rattle.rules.specs.Measures.{sum, owed_of, unit_lots, most_lots, output_words}
use Rattle.rules.specs.Handover.{stock}
use Rattle.rules.specs.Book.{row, dues_of, obligations_of, delivered_total, lifts_at, units_by, order_in, order_of, dealt_today}
use Rattle.rules.specs.Calls.{deliver_records, issue_fails, cutoff_records}
use Rattle.laws.proofs.Basics.{either, Every, each_map, each_take, each_drop}
use Rattle.laws.proofs.Units.{Order}
use Rattle.laws.proofs.Orders.{units_order}
use Rattle.laws.proofs.Dealt.{dealt_order, lots_in, dealt_lots, lifted_lots}
use Rattle.laws.proofs.Lifts.{lifted_order}
use Rattle.laws.proofs.Handover.{order_stock}
use Rattle.laws.proofs.Fails.{Bounded, each_of_map}
use Rattle.laws.proofs.Cutoff.{SoundRow, Deliverer, Receiver, delivered_due, fails_bounded}
use Rattle.laws.proofs.Room.{cutoff_room, deliver_room, issue_fails_lem}
use Rattle.laws.proofs.Cells.{length_row, within_row}
use Rattle.laws.proofs.Signed.{size_of_lem}
use Rattle.laws.proofs.Sound.{SoundBook, parts_balanced}

-- the order of an issue has what laws assume of an order: here alone is it known which one it is
pub order_in_lem : (new : Bool) (nets : List ℤ) (lifts : List ℕ) (i : ℕ) → Order (dues_of nets i) (order_in new nets lifts i)
unfolding order_in
order_in_lem new nets lifts i =
    lifted_order (dues_of nets i) (lifts_at lifts i) (units_by new (row i nets)) (either (Order (dues_of nets i)) new (dealt_order (dues_of nets i)) (units_order (dues_of nets i)))

-- place by place both orders have the same lots: what a total covers, the stock, the number of units and the sums of the
-- first of them are read off either
pub order_lots : (new : Bool) (nets : List ℤ) (lifts : List ℕ) (i : ℕ) → lots_in (order_in new nets lifts i) ≡ lots_in (order_in false nets lifts i)
unfolding order_in
order_lots new nets lifts i =
    lifted_lots (lifts_at lifts i) (units_by new (row i nets)) (units_by false (row i nets))
    (either (λ us. lots_in us ≡ lots_in (units_by false (row i nets))) new (dealt_lots (dues_of nets i)) refl)

module _ (b : Book) (s : SoundBook b) (n : length b.nets ≡ 1024) (d : length b.delivered ≡ 1024) where
  module _ (i : ℕ) (h : i < 16) where
    pub sound_row : SoundRow (row i b.nets) (row i b.delivered)
    sound_row =
        record {
          lengths = length_row b.nets i n h ∙ sym (length_row b.delivered i d h);
          balance = parts_balanced (row i b.nets) (s.rows i h);
          owed = within_row i b.nets b.delivered s.owed;
        }

    -- what is delivered in an issue is at most what is due
    pub total_due : delivered_total b.delivered i ≤ sum (dues_of b.nets i)
    total_due = delivered_due (row i b.nets) (row i b.delivered) sound_row

    -- the stock is at most 99,999
    pub stock_small : stock (order_of b i) (delivered_total b.delivered i) ≤ 99999
    stock_small =
        order_stock (dues_of b.nets i) (order_of b i) (delivered_total b.delivered i) (order_in_lem (dealt_today b) b.nets b.lifts i) total_due

    -- nobody owes more than 20,000,000
    pub owed_small : Every (λ x. x ≤ most_lots) (obligations_of b.nets i)
    owed_small =
        each_of_map (λ x. x ≤ most_lots) owed_of (row i b.nets)
        (each_take (λ m. owed_of m ≤ most_lots) 64 (drop (i * 64) b.nets)
        (each_drop (λ m. owed_of m ≤ most_lots) (i * 64) b.nets
        (each_map (λ m. nat_abs m ≤ most_lots) (λ m. owed_of m ≤ most_lots) (λ m p. omega (arith, size_of_lem m)) b.nets s.size)))

    -- an issue's fails run from deliverers to receivers and have 1 to 20,000,000 lots
    pub issue_bounded :
        Every (Bounded (Deliverer (row i b.nets)) (Receiver (row i b.nets)) most_lots) (issue_fails (order_of b) b.nets b.delivered i)
    unfolding issue_fails
    issue_bounded =
        fails_bounded (row i b.nets) (row i b.delivered) (order_of b i) unit_lots most_lots (order_in_lem (dealt_today b) b.nets b.lifts i)
        sound_row.lengths owed_small

    -- and are at most 126
    pub issue_few : length (issue_fails (order_of b) b.nets b.delivered i) ≤ 126
    unfolding issue_fails
    issue_few =
        issue_fails_lem (row i b.nets) (row i b.delivered) (order_of b i) (order_in_lem (dealt_today b) b.nets b.lifts i) (length_row b.nets i n h) sound_row

    -- the records of a delivery fit
    pub deliver_fits : (x : ℕ) → x ≤ most_lots → 2 * length (deliver_records (order_of b) b.delivered i x) ≤ output_words
    deliver_fits x l = deliver_room (dealt_today b) b.nets b.delivered b.lifts i x (order_in_lem (dealt_today b) b.nets b.lifts i) (length_row b.nets i n h) sound_row l

  -- and so do those of a cutoff
  pub cutoff_fits : 2 * length (cutoff_records b.state.day (order_of b) b.nets b.delivered) ≤ output_words
  cutoff_fits = cutoff_room (dealt_today b) b.state.day b.nets b.delivered b.lifts (order_in_lem (dealt_today b) b.nets b.lifts) (λ i h. length_row b.nets i n h) (λ i h. sound_row i h)
