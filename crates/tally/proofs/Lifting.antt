-- Asking changes nothing, and commit keeps the invariant: what was handed stays in front of the lifted order, so the row
-- stays a front of it, and the place of the new lift is the row's length.
use mathlib.Core.Path.{◌≡◌, refl, sym, ap, ◌∙◌}
use mathlib.Core.Bool.{true}
use mathlib.Core.List.{List, ◌++◌, append-nil}
use Prim.Native.Nat.{ℕ, ◌<◌}
use native.Mathlib.Omega.{arith}
use lib.Dec.{eqb}
use lib.ListN.{length, get_or, drop, length-set}
use borrow.Author.Tests.{leb-true, ltb-true, eqb-true, eqb-false, eq-eqb}
use Rattle.rules.specs.declared.Book.{Book}
use Rattle.rules.specs.declared.Phase.TheVariants.{Settling}
use Rattle.rules.specs.declared.Ticket.{Ticket}
use Rattle.rules.specs.Units.{AccountLots, of_account}
use Rattle.rules.specs.Handover.{covered, handed, handed_from}
use Rattle.rules.specs.Lifts.{Lift, lift}
use Rattle.rules.specs.Book.{is_settling, places_in, delivered_total, lift_number, lifts_at, order_in, order_of, with_lifts, dealt_today}
use Rattle.rules.specs.Records.{Rec, handover}
use Rattle.rules.specs.Calls.{writes, Ask, Commit, commit_lift, with_lift, commit_records, called}
use Rattle.rules.specs.Tally.{Tallied, records_of, join_lift}
use Rattle.laws.proofs.Basics.{by_test, total_append, Every}
use Rattle.laws.proofs.Handover.{handed_length}
use Rattle.laws.proofs.Lifts.{total_lift, each_lift, each_handed_from, lift_handed}
use Rattle.laws.proofs.Fails.{each_of_map}
use Rattle.laws.proofs.LiftColumn.{lift_other, lift_lifts, lift_in_order, same_words_lem}
use Rattle.laws.proofs.Records.{Fits, records_read, tens_same, tens_other}
use Rattle.laws.proofs.Issue.{units_fit}
use Rattle.laws.proofs.Answers.{by_answer}
use Rattle.tally.proofs.Invariant.{RowIs, Inv, Keeps, did}
use Rattle.tally.proofs.Delivering.{to_settling, of_settling}

pub keeps_ask : (s : Tallied) → Inv s → (i k : ℕ) (out : List ℕ) → Keeps (Ask i k) s (called s.book (Ask i k) out)
keeps_ask s v i k out = by_answer (Keeps (Ask i k) s) s.book (Ask i k) out (λ y. v) (λ r. v)

module _ (s : Tallied) (v : Inv s) (t : Ticket) (hi : t.issue < 16) (p : is_settling s.book.state.phase ≡ true)
    (few : lift_number s.book.lifts t.issue < 8) where
  abbrev b : Book
  b = s.book

  abbrev i : ℕ
  i = t.issue

  abbrev us : List AccountLots
  us = order_of b i

  abbrev d : ℕ
  d = delivered_total b.delivered i

  abbrev l : Lift
  l = commit_lift (order_of b) b.delivered t

  abbrev new : List ℕ
  new = with_lift b.lifts i l

  abbrev rs : List Rec
  rs = commit_records (order_of b) b.delivered t

  all_fit : Every Fits rs
  all_fit =
      each_of_map Fits (handover i) (handed_from (lift l us) (covered us d) d)
      (each_handed_from (λ u. Fits (handover i u)) (lift l us) (covered us d) d
      (each_lift (λ u. Fits (handover i u)) l us (units_fit (dealt_today b) b.nets b.lifts i hi v.size_nets)))

  row_before : RowIs Settling us d (s.tally.rows i)
  row_before = to_settling b.state.phase us d (s.tally.rows i) p (v.rows i hi)

  row_here : RowIs Settling (lift l us) d (s.tally.rows i ++ records_of 10 i rs)
  row_here = (
    (
        ap (λ z. z ++ records_of 10 i rs) row_before.0
        ∙ ap (λ z. handed us d ++ z) (tens_same i (handed_from (lift l us) (covered us d) d))
        ∙ sym (lift_handed us d t.unit)
        ),
    rw (total_lift (λ u. u.lots) l us) row_before.1,
  )

  row_at : (j : ℕ) → j < 16 →
      RowIs b.state.phase (order_in (dealt_today b) b.nets new j) (delivered_total b.delivered j) (s.tally.rows j ++ records_of 10 j rs)
  row_at j hj =
      by_test (eqb j i)
      (λ e.
      rw (eqb-true j i e, lift_in_order b.lifts i l few v.size_lifts hi (dealt_today b) b.nets)
      (of_settling b.state.phase (lift l us) d (s.tally.rows i ++ records_of 10 i rs) p row_here))
      (λ e.
      let ne = eqb-false j i e in
      rw (
        same_words_lem (dealt_today b) b.lifts new j b.nets (lift_other b.lifts i l few j ne),
        tens_other i j (handed_from (lift l us) (covered us d) d) (λ q. ne (sym q)),
        append-nil (s.tally.rows j),
      ) (v.rows j hj))

  -- each 10 of the row is a unit handed, so the new place is the tally's
  lifts_at_lem : (j : ℕ) → j < 16 → join_lift t s.tally.rows s.tally.lifts j ≡ lifts_at new j
  lifts_at_lem j hj =
      by_test (eqb j i)
      (λ e.
      let n : length (s.tally.rows i) ≡ covered us d = ap length row_before.0 ∙ handed_length us d in
      rw (eqb-true j i e, eq-eqb i i refl, v.lifts i hi, n) (sym (lift_lifts b.lifts i l few v.size_lifts hi)))
      (λ e.
      simp e
      (append-nil (s.tally.lifts j) ∙ v.lifts j hj
      ∙ sym (ap (λ ws. places_in (get_or ws 0 0) (drop 2 ws)) (lift_other b.lifts i l few j (eqb-false j i e)))))

  committed_inv : Inv (did (Commit t) (writes (with_lifts b new) rs) s)
  committed_inv = record {
    size_nets = v.size_nets;
    size_delivered = v.size_delivered;
    size_lifts = simp length-set v.size_lifts;
    size_charges = v.size_charges;
    nets = v.nets;
    given = v.given;
    handed = λ j c. omega (arith, v.handed j c, total_append (of_account c) (s.tally.rows j) (records_of 10 j rs));
    phase = v.phase;
    rows = row_at;
    lifts = lifts_at_lem;
    day = v.day;
    turn = v.turn;
    balance = v.balance;
    charges = v.charges;
  }

pub keeps_commit : (s : Tallied) → Inv s → (t : Ticket) (out : List ℕ) → Keeps (Commit t) s (called s.book (Commit t) out)
keeps_commit s v t out =
    let b = s.book in
    let rs = commit_records (order_of b) b.delivered t in
    by_answer (Keeps (Commit t) s) b (Commit t) out
    (λ y.
    let hi : t.issue < 16 = omega (arith, leb-true t.issue 15 y.1.1.1.0) in
    let p = y.1.1.0 in
    let few = ltb-true _ _ y.1.1.1.1.1.1.0 in
    rw (records_read rs out (all_fit s v t hi p few)) (committed_inv s v t hi p few))
    (λ r. v)
