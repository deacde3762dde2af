-- Deliver keeps the invariant: the units that are handed over are the next of the order, so the row
-- stays a front of it.
use mathlib.Core.Path.{◌≡◌, sym, ap, ◌∙◌}
use mathlib.Core.Bool.{true, false≢true}
use mathlib.Core.List.{List, ◌++◌, append-nil}
use Prim.Native.Nat.{ℕ, ◌+◌, ◌≤◌, ◌<◌}
use native.Mathlib.Omega.{arith}
use lib.Dec.{eqb}
use lib.ListN.{length-set}
use borrow.Author.Tests.{leb-true, eqb-true, eqb-false}
use Rattle.rules.specs.declared.Phase.{Phase}
use Rattle.rules.specs.declared.Phase.TheVariants.{Taking, Settling, Cut}
use Rattle.rules.specs.Measures.{owed_of}
use Rattle.rules.specs.Units.{AccountLots, of_account}
use Rattle.rules.specs.Handover.{handed, handovers}
use Rattle.rules.specs.Book.{is_settling, cell, net_at, delivered_at, delivered_total, order_in, order_of, with_delivered, with_lifts, dealt_today}
use Rattle.rules.specs.Records.{Rec, handover}
use Rattle.rules.specs.Calls.{writes, Deliver, raised_delivered, raised_count, deliver_records, called}
use Rattle.rules.specs.Tally.{Tallied, records_of}
use Rattle.laws.proofs.Basics.{by_test, total_append, Every}
use Rattle.laws.proofs.Handover.{handed_extends, each_handovers}
use Rattle.laws.proofs.Fails.{each_of_map}
use Rattle.laws.proofs.Cells.{here, here_eq, cell_set, row_other, delivered_rises, within_set}
use Rattle.laws.proofs.LiftColumn.{raised_lifts, raised_order}
use Rattle.laws.proofs.Sound.{SoundBook, sound_parts}
use Rattle.laws.proofs.Records.{Fits, records_read, tens_same, tens_other}
use Rattle.laws.proofs.Issue.{within_units, units_fit}
use Rattle.laws.proofs.Answers.{by_answer}
use Rattle.tally.proofs.Invariant.{RowIs, Inv, Keeps, did}

pub to_settling : (p : Phase) (us : List AccountLots) (d : ℕ) (l : List AccountLots) → is_settling p ≡ true → RowIs p us d l → RowIs Settling us d l
to_settling Taking us d l h x = absurd (false≢true h)
to_settling Settling us d l h x = x
to_settling Cut us d l h x = absurd (false≢true h)

pub of_settling : (p : Phase) (us : List AccountLots) (d : ℕ) (l : List AccountLots) → is_settling p ≡ true → RowIs Settling us d l → RowIs p us d l
of_settling Taking us d l h x = absurd (false≢true h)
of_settling Settling us d l h x = x
of_settling Cut us d l h x = absurd (false≢true h)

module _ (s : Tallied) (v : Inv s) (i a x : ℕ) (hi : i < 16) (ha : a < 64) (g : SoundBook s.book)
    (p : is_settling s.book.state.phase ≡ true)
    (o : delivered_at s.book.delivered i a + x ≤ owed_of (net_at s.book.nets i a)) where
  abbrev us : List AccountLots
  us = order_of s.book i

  abbrev d : ℕ
  d = delivered_total s.book.delivered i

  abbrev ds : List ℕ
  ds = raised_delivered s.book.delivered i a x

  abbrev rs : List Rec
  rs = deliver_records (order_of s.book) s.book.delivered i x

  all_fit : Every Fits rs
  all_fit =
      each_of_map Fits (handover i) (handovers us d x)
      (each_handovers (λ u. Fits (handover i u)) us d x (units_fit (dealt_today s.book) s.book.nets s.book.lifts i hi v.size_nets))

  row_here : RowIs Settling us (delivered_total ds i) (s.tally.rows i ++ records_of 10 i rs)
  row_here =
      let l = to_settling s.book.state.phase us d (s.tally.rows i) p (v.rows i hi) in
      let e = delivered_rises s.book.delivered i a x v.size_delivered hi ha in (
        (
            ap (λ z. z ++ records_of 10 i rs) l.0
            ∙ ap (λ z. handed us d ++ z) (tens_same i (handovers us d x))
            ∙ sym (handed_extends us d x)
            ∙ ap (handed us) (sym e)
            ),
        within_units s.book g i hi v.size_nets ds (simp length-set v.size_delivered)
            (within_set s.book.nets s.book.delivered (cell i a) (delivered_at s.book.delivered i a + x) g.owed o),
      )

  row_at : (j : ℕ) → j < 16 →
      RowIs s.book.state.phase (order_in (dealt_today s.book) s.book.nets (raised_count s.book.lifts i) j) (delivered_total ds j) (s.tally.rows j ++ records_of 10 j rs)
  row_at j hj =
      rw (raised_order s.book.lifts i (dealt_today s.book) s.book.nets j)
      (by_test (eqb j i)
      (λ e. rw (eqb-true j i e) (of_settling s.book.state.phase us (delivered_total ds i) (s.tally.rows i ++ records_of 10 i rs) p row_here))
      (λ e.
      let ne = eqb-false j i e in
      rw (
        row_other s.book.delivered i a j (delivered_at s.book.delivered i a + x) ha ne,
        tens_other i j (handovers us d x) (λ q. ne (sym q)),
        append-nil (s.tally.rows j),
      ) (v.rows j hj)))

  delivered_inv : Inv (did (Deliver i a x) (writes (with_lifts (with_delivered s.book ds) (raised_count s.book.lifts i)) rs) s)
  delivered_inv = record {
    size_nets = v.size_nets;
    size_delivered = simp length-set v.size_delivered;
    size_lifts = simp length-set v.size_lifts;
    size_charges = v.size_charges;
    nets = v.nets;
    given = λ j c hj hc.
        let q = v.size_delivered in
        rw (cell_set s.book.delivered i a j c (delivered_at s.book.delivered i a + x) 0 (omega arith) ha hc)
        (by_test (here i a j c)
        (λ e. simp e (let r = here_eq i a j c e in rw (r.0, r.1) (omega (arith, v.given i a hi ha))))
        (λ e. simp e (omega (arith, v.given j c hj hc))));
    handed = λ j c. omega (arith, v.handed j c, total_append (of_account c) (s.tally.rows j) (records_of 10 j rs));
    phase = v.phase;
    rows = row_at;
    lifts = λ j hj. v.lifts j hj ∙ sym (raised_lifts s.book.lifts i j);
    day = v.day;
    turn = v.turn;
    balance = v.balance;
    charges = v.charges;
  }

pub keeps_deliver : (s : Tallied) → Inv s → (i a x : ℕ) (out : List ℕ) → Keeps (Deliver i a x) s (called s.book (Deliver i a x) out)
keeps_deliver s v i a x out =
    let b = s.book in
    let rs = deliver_records (order_of b) b.delivered i x in
    by_answer (Keeps (Deliver i a x) s) b (Deliver i a x) out
    (λ y.
    let hi : i < 16 = omega (arith, leb-true i 15 y.1.1.1.0) in
    let ha : a < 64 = omega (arith, leb-true a 63 y.1.1.1.1.0) in
    let g = sound_parts b y.1.0 in
    let p = y.1.1.0 in
    let o = leb-true _ _ y.1.1.1.1.1.1.1.0 in
    rw (records_read rs out (all_fit s v i a x hi ha g p o)) (delivered_inv s v i a x hi ha g p o))
    (λ r. v)
