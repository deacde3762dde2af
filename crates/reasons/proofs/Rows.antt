-- What is told of a unit, said of the records, of every book that a list of calls reaches. In Settling it is handed exactly if
-- the tally's row of the issue has a 10 at its place; in Cut it lacks its lots less those of the 10 at its place.
use mathlib.Core.Path.{◌≡◌, refl, ap, ◌∙◌}
use mathlib.Core.Bool.{true, false≢true}
use mathlib.Core.List.{List, [], ◌∷◌}
use Prim.Native.Nat.{ℕ, zero, suc, ◌+◌, ◌-◌, ◌<◌}
use native.Mathlib.Omega.{arith}
use lib.Dec.{leb, ltb}
use lib.ListN.{length, get_or}
use borrow.Author.Tests.{leb-false, ltb-true, lt-ltb}
use Rattle.rules.specs.declared.Phase.{Phase}
use Rattle.rules.specs.declared.Phase.TheVariants.{Taking, Settling, Cut}
use Rattle.rules.specs.Units.{AccountLots, prepend}
use Rattle.rules.specs.Handover.{covered, handed, partials}
use Rattle.rules.specs.Book.{is_settling, is_cut, delivered_total, order_of}
use Rattle.rules.specs.Tally.{CallList, after_all, start, no_lots, units_today}
use Rattle.laws.proofs.Basics.{by_test}
use Rattle.laws.proofs.Handover.{covered_le, handed_length}
use Rattle.tally.proofs.Invariant.{cut_row, RowIs}
use Rattle.tally.proofs.Shown.{units_today_lem}
use Rattle.tally.proofs.Demand.{reached}
use Rattle.tally.proofs.Reached.{reached_sound}
use Rattle.told.specs.Status.{is_handed, covers, wanted, in_settling, after_cutoff, status}
use Rattle.reasons.specs.Lists.{HandedByRow, lacking_of}
use Rattle.reasons.proofs.Phases.{settling_not_cut}
use Rattle.reasons.proofs.Between.{handed_covered, tells_of, in_settling_lem}
use Rattle.reasons.proofs.Lacking.{behind_handed, behind_waiting, first_lacks, first_none, in_cut}

-- In Settling

-- in Settling the row is the handed front of the issue's order
settling_row : (p : Phase) (us : List AccountLots) (d : ℕ) (row : List AccountLots) → is_settling p ≡ true → RowIs p us d row → row ≡ handed us d
settling_row Taking us d row h r = absurd (false≢true h)
settling_row Settling us d row h r = r.0
settling_row Cut us d row h r = absurd (false≢true h)

module _ (us : List AccountLots) (d k : ℕ) where
  handed_tells : k < covered us d → in_settling us d k ≡ is_handed
  unfolding in_settling
  handed_tells h = simp (lt-ltb k (covered us d) h)

  tells_handed : in_settling us d k ≡ is_handed → k < covered us d
  unfolding in_settling
  tells_handed e = ltb-true k (covered us d) (handed_covered (covers us d k) (wanted us d k) e)

pub handed_by_row : (cs : CallList) (i k : ℕ) → i < 16 → is_settling (after_all start cs).book.state.phase ≡ true → HandedByRow (after_all start cs) i k
handed_by_row cs i k h p =
    let s = after_all start cs in
    let b = s.book in
    let us = order_of b i in
    let d = delivered_total b.delivered i in
    let n : length (s.tally.rows i) ≡ covered us d =
    ap length (settling_row b.state.phase us d (s.tally.rows i) p ((reached cs).rows i h)) ∙ handed_length us d in
    record {
      told = λ e.
          omega (arith, n, tells_handed us d k (simp (settling_not_cut b.state.phase p) at (tells_of b i k is_handed (omega arith) e).told));
      recorded = λ l.
          let c : k < covered us d = omega (arith, n) in
          in_settling_lem b i k (reached_sound cs) p (omega arith) (omega (arith, covered_le us d)) ∙ handed_tells us d k c;
    }

-- In Cut

-- the row has the stock's 10 besides
cut_row_lem : (p : Phase) (us : List AccountLots) (d : ℕ) (row : List AccountLots) → is_cut p ≡ true → RowIs p us d row → row ≡ cut_row us d
cut_row_lem Taking us d row h r = absurd (false≢true h)
cut_row_lem Settling us d row h r = absurd (false≢true h)
cut_row_lem Cut us d row h r = r.0

part_first : (a d : ℕ) → (get_or (prepend a d []) 0 no_lots).lots ≡ d
part_first a zero = refl
part_first a (suc d) = refl

part_behind : (a d k : ℕ) → (get_or (prepend a d []) (suc k) no_lots).lots ≡ 0
part_behind a zero k = refl
part_behind a (suc d) k = refl

row_lacks : (us : List AccountLots) (d k : ℕ) → k < length us →
    (get_or (cut_row us d) k no_lots).lots + lacking_of (get_or us k no_lots) (after_cutoff us d k) ≡ (get_or us k no_lots).lots
unfolding partials
row_lacks [] d k h = absurd (omega arith)
row_lacks (u ∷ us) d zero h =
    by_test (leb u.lots d)
    (λ e. let p : (get_or (cut_row (u ∷ us) d) 0 no_lots).lots ≡ u.lots = simp e in omega (arith, p, first_none u us d e))
    (λ e.
    let p : (get_or (cut_row (u ∷ us) d) 0 no_lots).lots ≡ d = simp e (part_first u.account d) in
    omega (arith, p, first_lacks u us d e, leb-false u.lots d e))
row_lacks (u ∷ us) d (suc k) h =
    by_test (leb u.lots d)
    (λ e.
    let p : (get_or (cut_row (u ∷ us) d) (suc k) no_lots).lots ≡ (get_or (cut_row us (d - u.lots)) k no_lots).lots = simp e in
    omega (arith, p, ap (lacking_of (get_or us k no_lots)) (behind_handed u us d k e), row_lacks us (d - u.lots) k (omega arith)))
    (λ e.
    let p : (get_or (cut_row (u ∷ us) d) (suc k) no_lots).lots ≡ 0 = simp e (part_behind u.account d k) in
    omega (arith, p, ap (lacking_of (get_or us k no_lots)) (behind_waiting u us d k e)))

-- what a unit is told to lack, and the lots of the 10 at its place (0 where there is none), are together its lots
pub lacks_by_row : (cs : CallList) (i k : ℕ) → i < 16 → is_cut (after_all start cs).book.state.phase ≡ true →
    k < length (units_today (after_all start cs).tally i) →
    (get_or ((after_all start cs).tally.rows i) k no_lots).lots
    + lacking_of (get_or (units_today (after_all start cs).tally i) k no_lots) (status (after_all start cs).book i k)
    ≡ (get_or (units_today (after_all start cs).tally i) k no_lots).lots
lacks_by_row cs i k h p t =
    let s = after_all start cs in
    let b = s.book in
    let us = order_of b i in
    let d = delivered_total b.delivered i in
    let v = reached cs in
    let e : units_today s.tally i ≡ us = units_today_lem s v i h in
    let l : k < length us = (rw e at t) in
    rw (e, cut_row_lem b.state.phase us d (s.tally.rows i) p (v.rows i h), in_cut b i k (reached_sound cs) p (omega arith) l) (row_lacks us d k l)
