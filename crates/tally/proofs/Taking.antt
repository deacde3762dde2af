-- The invariant is there at the start, and trade and close keep it.
use mathlib.Core.Path.{◌≡◌, refl, sym, ap, ◌∙◌}
use mathlib.Core.Bool.{true, cond, false≢true}
use mathlib.Core.List.{List, [], ◌∷◌}
use Prim.Native.Nat.{ℕ, ◌+◌, ◌<◌}
use native.Mathlib.Omega.{arith}
use lib.Dec.{leb, eqb}
use lib.ListN.{get_or, set, replicate, length-set, length-replicate, get_or-replicate}
use lib.IntN.{ℤ, pos, ◌+ℤ◌, ◌-ℤ◌}
use borrow.Author.Tests.{leb-true, lt-leb, eqb-false, not-true}
use Rattle.rules.specs.declared.Phase.{Phase}
use Rattle.rules.specs.declared.Phase.TheVariants.{Taking, Settling, Cut}
use Rattle.rules.specs.Measures.{due_of, owed_of}
use Rattle.rules.specs.Units.{AccountLots}
use Rattle.rules.specs.Handover.{handed}
use Rattle.rules.specs.Book.{is_taking, cell, net_at, dealt_today}
use Rattle.rules.specs.Calls.{Trade, Close, traded_nets, called}
use Rattle.rules.specs.Tally.{Tallied, start}
use Rattle.laws.proofs.Basics.{by_test, and_left, and_right, Every}
use Rattle.laws.proofs.Units.{UnitSized}
use Rattle.laws.proofs.Cells.{here, here_eq, cell_set, row_zeros}
use Rattle.laws.proofs.LiftColumn.{no_lifts}
use Rattle.laws.proofs.Signed.{rises, falls}
use Rattle.laws.proofs.SoundRows.{order_in_lem}
use Rattle.laws.proofs.Answers.{by_answer}
use Rattle.tally.proofs.Invariant.{RowIs, Inv, Keeps}

-- The start

pub no_net_lem : (i a : ℕ) → i < 16 → a < 64 → net_at (replicate 1024 (pos 0)) i a ≡ pos 0
no_net_lem i a h k = get_or-replicate 1024 (cell i a) (pos 0) (pos 0) (omega arith)

pub none_delivered : (i a : ℕ) → i < 16 → a < 64 → ◌≡◌ {A = ℕ} 0 (get_or (replicate 1024 0) (cell i a) 0)
none_delivered i a h k = sym (get_or-replicate 1024 (cell i a) 0 0 (omega arith))

pub starts : Inv start
starts = record {
  size_nets = length-replicate 1024 (pos 0);
  size_delivered = length-replicate {A = ℕ} 1024 0;
  size_lifts = length-replicate {A = ℕ} 288 0;
  size_charges = refl;
  nets = λ i a h k. rw (no_net_lem i a h k) refl;
  given = none_delivered;
  handed = λ i a. refl;
  phase = refl;
  rows = λ i h. (refl, row_zeros i 1024);
  lifts = λ i h. sym (no_lifts i 288);
  day = refl;
  turn = refl;
  balance = λ i a h k. refl;
  charges = refl;
}

-- Trade

taking_row : (p : Phase) (us us' : List AccountLots) (d : ℕ) (l : List AccountLots) → is_taking p ≡ true → RowIs p us d l → RowIs p us' d l
taking_row Taking us us' d l h x = x
taking_row Settling us us' d l h x = absurd (false≢true h)
taking_row Cut us us' d l h x = absurd (false≢true h)

module _ (s : Tallied) (v : Inv s) (i f c x : ℕ) (hi : i < 16) (hf : f < 64) (hc : c < 64) (ne : f ≡ c → ⊥) where
  abbrev ns : List ℤ
  ns = s.book.nets

  traded_at : (j e : ℕ) → e < 64 →
      net_at (traded_nets ns i f c x) j e
      ≡ cond (here i c j e) (net_at ns i c +ℤ pos x) (cond (here i f j e) (net_at ns i f -ℤ pos x) (net_at ns j e))
  traded_at j e h =
      let q = v.size_nets in
      cell_set (set ns (cell i f) (net_at ns i f -ℤ pos x)) i c j e (net_at ns i c +ℤ pos x) (pos 0)
      (rw length-set (omega arith)) hc h
      ∙ ap (cond (here i c j e) (net_at ns i c +ℤ pos x))
      (cell_set ns i f j e (net_at ns i f -ℤ pos x) (pos 0) (omega arith) hf h)

  traded_net : (j e : ℕ) → j < 16 → e < 64 →
      due_of (net_at (traded_nets ns i f c x) j e) + (s.tally.today.sold j e + cond (here i f j e) x 0)
      ≡ s.tally.today.bought j e + cond (here i c j e) x 0 + owed_of (net_at (traded_nets ns i f c x) j e)
  traded_net j e hj he =
      rw (traded_at j e he)
      (by_test (here i c j e)
      (λ p. by_test (here i f j e)
      (λ q. absurd (omega (arith, here_eq i c j e p, here_eq i f j e q)))
      (λ q. simp (p, q) (let r = here_eq i c j e p in rw (r.0, r.1) (omega (arith, rises (net_at ns i c) x, v.nets i c hi hc)))))
      (λ p. by_test (here i f j e)
      (λ q. simp (p, q) (let r = here_eq i f j e q in rw (r.0, r.1) (omega (arith, falls (net_at ns i f) x, v.nets i f hi hf))))
      (λ q. simp (p, q) (omega (arith, v.nets j e hj he)))))

pub keeps_trade : (s : Tallied) → Inv s → (i f c x : ℕ) (out : List ℕ) → Keeps (Trade i f c x) s (called s.book (Trade i f c x) out)
keeps_trade s v i f c x out =
    let b = s.book in
    by_answer (Keeps (Trade i f c x) s) b (Trade i f c x) out
    (λ y.
    let hi : i < 16 = omega (arith, leb-true i 15 y.1.1.0) in
    let hf : f < 64 = omega (arith, leb-true f 63 (and_left (leb f 63) (leb c 63) y.1.1.1.0)) in
    let hc : c < 64 = omega (arith, leb-true c 63 (and_right (leb f 63) (leb c 63) y.1.1.1.0)) in
    let ne = eqb-false f c (not-true (eqb f c) y.1.1.1.1.0) in
    record {
      size_nets = simp length-set v.size_nets;
      size_delivered = v.size_delivered;
      size_lifts = v.size_lifts;
      size_charges = v.size_charges;
      nets = traded_net s v i f c x hi hf hc ne;
      given = v.given;
      handed = v.handed;
      phase = v.phase;
      rows = λ j h. taking_row b.state.phase _ _ _ (s.tally.rows j) y.1.0 (v.rows j h);
      lifts = v.lifts;
      day = v.day;
      turn = v.turn;
      balance = v.balance;
      charges = v.charges;
    })
    (λ r. v)

-- Close

none_handed : (us : List AccountLots) → Every UnitSized us → handed us 0 ≡ []
none_handed [] ss = refl
none_handed (u ∷ us) ss = simp (lt-leb u.lots 0 ss.0.0)

closed_row : (p : Phase) (us : List AccountLots) (d : ℕ) (l : List AccountLots) → Every UnitSized us → is_taking p ≡ true → RowIs p us d l → RowIs Settling us d l
closed_row Taking us d l ss h x = rw (x.0, x.1) (sym (none_handed us ss), omega arith)
closed_row Settling us d l ss h x = absurd (false≢true h)
closed_row Cut us d l ss h x = absurd (false≢true h)

pub keeps_close : (s : Tallied) → Inv s → (out : List ℕ) → Keeps Close s (called s.book Close out)
keeps_close s v out =
    let b = s.book in
    by_answer (Keeps Close s) b Close out
    (λ y. record {
      size_nets = v.size_nets;
      size_delivered = v.size_delivered;
      size_lifts = v.size_lifts;
      size_charges = v.size_charges;
      nets = v.nets;
      given = v.given;
      handed = v.handed;
      phase = refl;
      rows = λ j h. closed_row b.state.phase _ _ (s.tally.rows j) (order_in_lem (dealt_today b) b.nets b.lifts j).sized y.1.0 (v.rows j h);
      lifts = v.lifts;
      day = v.day;
      turn = v.turn;
      balance = v.balance;
      charges = v.charges;
    })
    (λ r. v)
