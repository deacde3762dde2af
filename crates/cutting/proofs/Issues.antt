-- An issue at its cutoff: the cursor over its units and shortfalls stands for the fails of the definition.
use mathlib.Core.Path.{◌≡◌, refl, ap, sym, ◌∙◌}
use mathlib.Core.Bool.{Bool, true, ◌&&◌}
use mathlib.Core.List.{List, [], ◌∷◌, map}
use Prim.Native.Nat.{ℕ, suc, ◌+◌, ◌-◌, ◌≤◌, ◌<◌}
use native.Mathlib.Omega.{arith}
use native.Mathlib.Numerals.{add-one}
use lib.Dec.{eqb}
use lib.ListN.{length, drop, get_or, drop_of_length-le}
use lib.IntN.{ℤ, pos}
use lib.Seq.{drop-cons}
use borrow.Author.Tests.{eqb-true}
use Rattle.rules.specs.Measures.{unit_lots, most_lots, owed_of}
use Rattle.rules.specs.Units.{AccountLots, by_account, prepend, sum_lots}
use Rattle.rules.specs.Handover.{stock, waiting, first_unit, partials}
use Rattle.rules.specs.Fails.{undelivered, overlaps, lacks, fails}
use Rattle.rules.specs.Book.{row, dues_of, obligations_of, delivered_total, order_in}
use Rattle.rules.specs.Calls.{issue_fails, issue_partials}
use Rattle.laws.proofs.Basics.{and_left, and_right, sum_parts}
use Rattle.laws.proofs.Scans.{and_true, and_assoc}
use Rattle.laws.proofs.Handover.{handed_stock, total_handed, stock_next, order_stock}
use Rattle.laws.proofs.Cutoff.{balance_sum}
use Rattle.laws.proofs.Fails.{shorts_sum, each_shorts}
use Rattle.laws.proofs.Room.{issue_fails_lem}
use Rattle.laws.proofs.Cells.{length_row}
use Rattle.laws.proofs.Sound.{each_get_or, within_at}
use Rattle.laws.proofs.SoundRows.{order_in_lem}
use Rattle.book.specs.Rows.{Owing}
use Rattle.book.specs.Cells.{SoundCells}
use Rattle.units.specs.declared.Position.{Position}
use Rattle.units.specs.Cursor.{overlaps_from, Started}
use Rattle.runs.proofs.Cells.{owed_sized, sound_row, total_due}
use Rattle.cutting.specs.Issue.{all_delivered, IsReady}

-- A scan of who has delivered

pub delivered_more : (ns : List ℤ) (ds : List ℕ) (i r : ℕ) (g whole : Bool) → i < length ns → i < length ds → r ≡ owed_of (get_or ns i (pos 0)) →
    g && all_delivered (drop i ns) (drop i ds) ≡ whole → (g && eqb (get_or ds i 0) r) && all_delivered (drop (i + 1) ns) (drop (i + 1) ds) ≡ whole
delivered_more ns ds i r g whole h l q e =
    and_assoc g (eqb (get_or ds i 0) r) (all_delivered (drop (i + 1) ns) (drop (i + 1) ds))
    ∙ ap (λ t. g && t) (rw (add-one, q) (sym (rw (drop-cons ns i (pos 0) h, drop-cons ds i 0 l) refl))) ∙ e

pub delivered_end : (ns : List ℤ) (ds : List ℕ) (i : ℕ) (g whole : Bool) → length ns ≤ i →
    g && all_delivered (drop i ns) (drop i ds) ≡ whole → g ≡ whole
delivered_end ns ds i g whole h e = sym (and_true g) ∙ ap (λ l. g && all_delivered l (drop i ds)) (sym (drop_of_length-le ns h)) ∙ e

-- nobody is short where each has delivered all that it owes
none_short : (k : ℕ) (ns : List ℤ) (ds : List ℕ) → all_delivered ns ds ≡ true → by_account k (undelivered (map owed_of ns) ds) ≡ []
none_short k [] ds e = refl
none_short k (n ∷ ns) [] e = refl
none_short k (n ∷ ns) (d ∷ ds) e =
    let q = eqb-true d (owed_of n) (and_left (eqb d (owed_of n)) (all_delivered ns ds) e) in
    let z : owed_of n - d ≡ 0 = omega (arith, q) in
    rw z (none_short (suc k) ns ds (and_right (eqb d (owed_of n)) (all_delivered ns ds) e))

first_among : (us : List AccountLots) → (first_unit us).lots ≤ sum_lots us
first_among [] = omega arith
first_among (u ∷ us) = omega arith

module _ (nets : List ℤ) (delivered lifts : List ℕ) (i : ℕ) (h : i < 16) (s : SoundCells nets delivered lifts) where
  pub owing : (out : List ℕ) → length out ≡ 64 → Owing (row i nets) (row i delivered) out
  owing out l =
      let r = sound_row nets delivered lifts s i h in
      record {
        both = sym r.lengths;
        room = l ∙ sym (length_row nets i s.cells h);
        most = λ a. within_at (row i nets) (row i delivered) a r.lengths r.owed;
      }

module _ (new : Bool) (nets : List ℤ) (delivered lifts : List ℕ) (i : ℕ) (h : i < 16) (s : SoundCells nets delivered lifts) where
  -- an issue has at most 126 fails
  pub few : length (issue_fails (order_in new nets lifts) nets delivered i) ≤ 126
  unfolding issue_fails
  few = issue_fails_lem (row i nets) (row i delivered) (order_in new nets lifts i) (order_in_lem new nets lifts i) (length_row nets i s.cells h) (sound_row nets delivered lifts s i h)

  -- where each account has delivered all that it owes there are no fails, and no stock
  module _ (e : all_delivered (row i nets) (row i delivered) ≡ true) where
    pub no_fails : issue_fails (order_in new nets lifts) nets delivered i ≡ []
    unfolding issue_fails fails
    no_fails = rw (none_short 0 (row i nets) (row i delivered) e)

    pub no_partials : issue_partials (order_in new nets lifts) delivered i ≡ []
    unfolding issue_partials partials
    no_partials =
        let us = order_in new nets lifts i in
        let d = delivered_total delivered i in
        let r = sound_row nets delivered lifts s i h in
        let o = order_in_lem new nets lifts i in
        let z : stock us d ≡ 0 =
        omega (
          arith,
          handed_stock us d,
          total_handed (λ u. u.lots) us d,
          stock_next us d (omega (arith, o.whole, total_due nets delivered lifts s i h)),
          first_among (waiting us d),
          o.whole,
          shorts_sum (row i nets) (row i delivered) r.lengths r.owed,
          sum_parts 0 (undelivered (obligations_of nets i) (row i delivered)),
          ap sum_lots (none_short 0 (row i nets) (row i delivered) e),
          balance_sum (row i nets) r.balance,
        ) in
        rw z

  -- the cursor after a delivered total of its units
  module _ (after out : List ℕ) (n d : ℕ) (r : Position) (t : d ≡ delivered_total delivered i) (o : out ≡ undelivered (obligations_of nets i) (row i delivered))
      (l : length out ≡ 64) (w : n ≤ length after) (st : Started (order_in new nets lifts i) after n d r) where
    issue_cursor : overlaps_from after n out r.cursor ≡ issue_fails (order_in new nets lifts) nets delivered i
    unfolding issue_fails fails
    issue_cursor =
        st.lacking out ∙ ap (λ l. overlaps (by_account 0 l) (lacks unit_lots (order_in new nets lifts i) d)) o
        ∙ ap (λ k. overlaps (by_account 0 (undelivered (obligations_of nets i) (row i delivered))) (lacks unit_lots (order_in new nets lifts i) k)) t

    issue_stock : prepend r.cursor.to r.stock [] ≡ issue_partials (order_in new nets lifts) delivered i
    unfolding issue_partials partials
    issue_stock = rw (st.next, st.left, t)

    pub ready : IsReady new nets delivered lifts i after out (record { n = n; cursor = r.cursor; stock = r.stock })
    ready =
        record {
          advance = record {
            there = w;
            shortfalls = record {
              accounts = l;
              small = λ a. rw o
                  (each_get_or (λ x. x ≤ most_lots) (undelivered (obligations_of nets i) (row i delivered)) a 0
                  (each_shorts most_lots (obligations_of nets i) (row i delivered) (owed_sized nets i s.size)) (omega arith));
            };
          };
          range = st.range;
          stock = omega (
            arith,
            rw t at st.left,
            order_stock (dues_of nets i) (order_in new nets lifts i) (delivered_total delivered i) (order_in_lem new nets lifts i) (total_due nets delivered lifts s i h),
          );
          fails = issue_cursor;
          partials = issue_stock;
        }
