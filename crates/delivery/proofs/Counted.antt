-- A delivery that is counted on what is kept: the number of units is the same in both orders, and what is kept stays right.
use mathlib.Core.Path.{◌≡◌, refl, sym, ap, ◌∙◌}
use mathlib.Core.Bool.{Bool, false}
use mathlib.Core.List.{List}
use Prim.Native.Nat.{ℕ, ◌+◌, ◌-◌, ◌≤◌, ◌<◌}
use native.Mathlib.Omega.{arith}
use lib.Dec.{eqb}
use lib.ListN.{length, set, length-set, length-map, length-replicate}
use lib.Seq.{get_or-set_same, get_or-set_other}
use lib.IntN.{ℤ}
use borrow.Author.Tests.{eqb-true, eqb-false}
use Rattle.rules.specs.Measures.{sum, output_words}
use Rattle.rules.specs.Units.{AccountLots}
use Rattle.rules.specs.Handover.{covered, stock, handovers}
use Rattle.rules.specs.Book.{delivered_at, delivered_total, order_in}
use Rattle.rules.specs.Records.{handover}
use Rattle.rules.specs.Calls.{raised_delivered, raised_count, deliver_records}
use Rattle.rules.specs.Run.{any_output}
use Rattle.laws.proofs.Basics.{by_test}
use Rattle.laws.proofs.Cells.{row_other, delivered_rises}
use Rattle.laws.proofs.Dealt.{same_covered}
use Rattle.laws.proofs.Handover.{handed_stock, handovers_length}
use Rattle.laws.proofs.LiftColumn.{raised_order}
use Rattle.laws.proofs.SoundRows.{order_lots}
use Rattle.waiting.specs.declared.Kept.{Kept}
use Rattle.waiting.specs.Waiting.{Keeps}
use Rattle.delivery.specs.Deliver.{CanDeliver, nothing, kept_at, KeepsEach, Made}
use Rattle.delivery.proofs.Serving.{can_serve}

-- an output of the program has room
pub any_room : output_words ≤ length any_output
any_room = omega (arith, length-replicate {A = ℕ} output_words 0)

-- the stock is no more than what was delivered
pub stock_small : (us : List AccountLots) (d : ℕ) → stock us d ≤ d
stock_small us d = omega (arith, handed_stock us d)

-- so beside the lots of a delivery it fits a word
pub stock_fits : (nets : List ℤ) (delivered lifts out : List ℕ) (i a x : ℕ) (k : Kept) → CanDeliver nets delivered lifts i a x out →
    Keeps (order_in false nets lifts i) (delivered_total delivered i) k → k.stock + x < 4294967296
stock_fits nets delivered lifts out i a x k can keeps =
    let d = delivered_total delivered i in
    omega (
      arith,
      keeps.left,
      stock_small (order_in false nets lifts i) d,
      (can_serve false nets delivered lifts out i a x can d refl).small,
    )

-- what is made of an issue is kept
pub made : (nets : List ℤ) (delivered lifts : List ℕ) (i : ℕ) (ks : List Kept) (k : Kept) → i < 16 → KeepsEach nets delivered lifts ks →
    Keeps (order_in false nets lifts i) (delivered_total delivered i) k → Made nets delivered lifts i (set ks i k)
made nets delivered lifts i ks k h e p =
    let here : kept_at (set ks i k) i ≡ k = get_or-set_same ks i k nothing (omega (arith, h, e.issues)) in
    record {
      kept = record {
        issues = length-set ks i k ∙ e.issues;
        each = λ j some.
            by_test (eqb j i)
            (λ t. rw (eqb-true j i t, here) p)
            (λ t.
            let o = get_or-set_other ks i j k nothing (eqb-false j i t) in
            rw o (e.each j (rw o at some)));
      };
      here = rw here p;
    }

-- and after the delivery what is kept is what waits then
module _ (nets : List ℤ) (delivered lifts out : List ℕ) (i a x : ℕ) (can : CanDeliver nets delivered lifts i a x out) (ks : List Kept) (k : Kept)
    (e : KeepsEach nets delivered lifts ks) (p : Keeps (order_in false nets lifts i) (delivered_total delivered i + x) k) where
  pub kept_on : (after raised : List ℕ) → (after ≡ raised_delivered delivered i a x) × (raised ≡ raised_count lifts i) → KeepsEach nets after raised (set ks i k)
  kept_on after raised o =
      let here : kept_at (set ks i k) i ≡ k = get_or-set_same ks i k nothing (omega (arith, can.issue, e.issues)) in
      rw (o.0, o.1)
      (record {
        issues = length-set ks i k ∙ e.issues;
        each = λ j some.
            by_test (eqb j i)
            (λ t.
            rw (eqb-true j i t, here, raised_order lifts i false nets i, delivered_rises delivered i a x can.sound.both can.issue can.account) p)
            (λ t.
            let ne = eqb-false j i t in
            let o = get_or-set_other ks i j k nothing ne in
            let r : delivered_total (raised_delivered delivered i a x) j ≡ delivered_total delivered j =
            ap sum (row_other delivered i a j (delivered_at delivered i a + x) can.account ne) in
            rw (o, raised_order lifts i false nets j, r) (e.each j (rw o at some)));
      })

-- the number of units that x more lots hand over is the same in both orders
pub same_number : (new : Bool) (nets : List ℤ) (delivered lifts : List ℕ) (i x n : ℕ) →
    n ≡ covered (order_in false nets lifts i) (delivered_total delivered i + x) - covered (order_in false nets lifts i) (delivered_total delivered i) →
    n ≡ length (deliver_records (order_in new nets lifts) delivered i x)
same_number new nets delivered lifts i x n e =
    let us = order_in new nets lifts i in
    let d = delivered_total delivered i in
    let s = same_covered us (order_in false nets lifts i) (order_lots new nets lifts i) in
    e ∙ rw (← s (d + x), ← s d) (sym (handovers_length us d x)) ∙ sym (length-map (handovers us d x) (handover i))
