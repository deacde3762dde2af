-- Demand 3 from the invariant.
use mathlib.Core.Path.{◌≡◌, refl, sym, ap, ◌∙◌}
use mathlib.Core.Bool.{Bool, false≢true}
use mathlib.Core.List.{List, [], ◌∷◌}
use Prim.Native.Nat.{ℕ, zero, suc, ◌-◌, ◌≤◌, ◌<◌}
use native.Mathlib.Omega.{arith}
use lib.Dec.{leb}
use lib.ListN.{length}
use lib.IntN.{pos, ◌-ℤ◌}
use borrow.Author.Tests.{leb-true, leb-false}
use Rattle.rules.specs.declared.Phase.{Phase}
use Rattle.rules.specs.declared.Phase.TheVariants.{Taking, Settling, Cut}
use Rattle.rules.specs.Measures.{unit_lots, sum}
use Rattle.rules.specs.Units.{AccountLots, prepend, sum_lots}
use Rattle.rules.specs.Handover.{handed, partials}
use Rattle.rules.specs.Lifts.{lifted}
use Rattle.rules.specs.Book.{is_settling, row, net_at, delivered_total, lifts_at, order_in, order_of, dealt_today, units_by, in_force}
use Rattle.rules.specs.Tally.{Tallied, Demand3, StockHeld, InTurn, nets_today, units_today, in_issue}
use Rattle.laws.proofs.Basics.{by_test, total_append, Every, each_map}
use Rattle.laws.proofs.Units.{UnitSized}
use Rattle.laws.proofs.Handover.{handed_stock, stock_bound, total_partials}
use Rattle.laws.proofs.Cells.{tab_row}
use Rattle.laws.proofs.SoundRows.{order_in_lem}
use Rattle.tally.proofs.Signs.{sum_zero, less, signed}
use Rattle.tally.proofs.Invariant.{cut_row, RowIs, Inv}

-- a row beside the units, 10 by 10: each but the last is its unit in full
abbrev Turns : List AccountLots → List AccountLots → Type 0
Turns [] us = Unit {0}
Turns (h ∷ hs) [] = ⊥
Turns (h ∷ hs) (u ∷ us) =
    (h.account ≡ u.account) × (1 ≤ h.lots) × (h.lots ≤ u.lots) × (0 < length hs → h.lots ≡ u.lots) × Turns hs us

turns_at : (row us : List AccountLots) (k : ℕ) → Turns row us → k < length row → InTurn row us k
turns_at [] us k t h = absurd (omega arith)
turns_at (h ∷ hs) [] k t q = absurd t
turns_at (h ∷ hs) (u ∷ us) zero t q =
    record { exists = omega arith; named = t.0; some = t.1; most = t.2; full = λ r. t.3 (omega arith) }
turns_at (h ∷ hs) (u ∷ us) (suc k) t q =
    let r = turns_at hs us k t.4 (omega arith) in
    record {
      exists = omega (arith, r.exists);
      named = r.named;
      some = r.some;
      most = r.most;
      full = λ l. r.full (omega arith);
    }

turns_put : (u : AccountLots) (us : List AccountLots) (d : ℕ) → d < u.lots → Turns (prepend u.account d []) (u ∷ us)
turns_put u us zero h = tt
turns_put u us (suc d) h = (refl, omega arith, omega arith, λ l. absurd (omega arith), tt)

-- the units that are covered, then the next one with the stock
turns_cut : (us : List AccountLots) (d : ℕ) → Every UnitSized us → d ≤ sum_lots us → Turns (cut_row us d) us
unfolding partials
turns_cut [] zero ss h = tt
turns_cut [] (suc d) ss h = absurd (omega arith)
turns_cut (u ∷ us) d ss h =
    by_test (leb u.lots d)
    (λ e. simp e (refl, ss.0.0, omega arith, λ l. refl, turns_cut us (d - u.lots) ss.1 (omega (arith, leb-true u.lots d e))))
    (λ e. simp e (turns_put u us d (leb-false u.lots d e)))

turns_handed : (us : List AccountLots) (d : ℕ) → Every UnitSized us → Turns (handed us d) us
turns_handed [] d ss = tt
turns_handed (u ∷ us) d ss =
    by_test (leb u.lots d)
    (λ e. simp e (refl, ss.0.0, omega arith, λ l. refl, turns_handed us (d - u.lots) ss.1))
    (λ e. simp e tt)

-- after a cutoff the row has all that was delivered
pub cut_row_sum : (us : List AccountLots) (d : ℕ) → sum_lots (cut_row us d) ≡ d
cut_row_sum us d =
    omega (
      arith,
      total_append (λ u. u.lots) (handed us d) (partials us d),
      total_partials (λ u. u.lots) us d (λ a. refl),
      handed_stock us d,
    )

record Facts (us : List AccountLots) (d : ℕ) (row : List AccountLots) (settling : Bool) : Type 0 where
  stock : StockHeld d (sum_lots row) settling
  turns : Turns row us

row_facts : (p : Phase) (us : List AccountLots) (d : ℕ) (row : List AccountLots) → Every UnitSized us → RowIs p us d row → Facts us d row (is_settling p)
row_facts Taking us d row ss l =
    rw l.0 (record { stock = record { least = omega arith; most = omega arith; handed_on = λ e. l.1 }; turns = tt })
row_facts Settling us d row ss l =
    let b = stock_bound unit_lots us d (omega arith) (each_map UnitSized (λ u. u.lots ≤ unit_lots) (λ u p. p.1) us ss) l.1 in
    let h = handed_stock us d in
    rw l.0 (record {
      stock = record { least = omega arith; most = omega arith; handed_on = λ e. absurd (false≢true (sym e)) };
      turns = turns_handed us d ss;
    })
row_facts Cut us d row ss l =
    let h = cut_row_sum us d in
    rw l.0 (record {
      stock = record { least = omega arith; most = omega arith; handed_on = λ e. omega arith };
      turns = turns_cut us d ss l.1;
    })

module _ (s : Tallied) (v : Inv s) (i : ℕ) (h : i < 16) where
  pub given_sum : in_issue s.tally.today.given i ≡ delivered_total s.book.delivered i
  unfolding in_issue
  given_sum = ap sum (tab_row (s.tally.today.given i) s.book.delivered i 0 v.size_delivered h (λ a k. v.given i a h k))

  pub nets_today_lem : nets_today s.tally i ≡ row i s.book.nets
  nets_today_lem =
      tab_row (λ a. pos (s.tally.today.bought i a) -ℤ pos (s.tally.today.sold i a)) s.book.nets i (pos 0) v.size_nets h
      (λ a k. less (net_at s.book.nets i a) (s.tally.today.sold i a) (s.tally.today.bought i a) (v.nets i a h k))

  pub units_today_lem : units_today s.tally i ≡ order_of s.book i
  unfolding order_in
  units_today_lem =
      ap (λ ls. lifted ls (units_by (in_force s.tally.turn s.tally.day) (nets_today s.tally i))) (v.lifts i h)
      ∙ ap (λ l. lifted (lifts_at s.book.lifts i) (units_by (in_force s.tally.turn s.tally.day) l)) nets_today_lem
      ∙ ap (λ t. lifted (lifts_at s.book.lifts i) (units_by (in_force t s.tally.day) (row i s.book.nets))) v.turn
      ∙ ap (λ d. lifted (lifts_at s.book.lifts i) (units_by (in_force s.book.state.turn d) (row i s.book.nets))) v.day

  facts : Facts (order_of s.book i) (delivered_total s.book.delivered i) (s.tally.rows i) (is_settling s.book.state.phase)
  facts =
      row_facts s.book.state.phase (order_of s.book i) (delivered_total s.book.delivered i) (s.tally.rows i)
      (order_in_lem (dealt_today s.book) s.book.nets s.book.lifts i).sized (v.rows i h)

pub shown : (s : Tallied) → Inv s → Demand3 s
shown s v = record {
  stock = λ i h. rw (given_sum s v i h, v.phase) (facts s v i h).stock;
  turns = λ i h k l. rw (units_today_lem s v i h) (turns_at (s.tally.rows i) (order_of s.book i) k (facts s v i h).turns l);
  balance = λ i a h k. signed _ _ _ _ _ _ (v.balance i a h k);
  charges = sum_zero s.book.charges v.charges;
}
