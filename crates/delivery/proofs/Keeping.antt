-- A delivery made on what is kept: the units that its lots hand over are the first of those that wait.
use mathlib.Core.Path.{◌≡◌, refl, ap, ◌∙◌}
use mathlib.Core.Bool.{false}
use mathlib.Core.List.{List}
use Prim.Native.Nat.{ℕ, ◌+◌}
use native.Mathlib.Omega.{arith}
use lib.IntN.{ℤ}
use Rattle.rules.specs.Units.{AccountLots}
use Rattle.rules.specs.Handover.{covered, stock, waiting}
use Rattle.rules.specs.Book.{delivered_total, order_in}
use Rattle.rules.specs.Records.{words, over}
use Rattle.laws.proofs.Handover.{covered_more}
use Rattle.handing.specs.declared.NextUnits.{NextUnits}
use Rattle.handing.specs.Handing.{hand_records, NewlyCovered}
use Rattle.serving.specs.Serving.{Served}
use Rattle.serving.proofs.Served.{newly_number, served}
use Rattle.waiting.specs.declared.Kept.{Kept}
use Rattle.waiting.specs.Waiting.{Keeps}
use Rattle.waiting.proofs.Waits.{waits_in}
use Rattle.delivery.specs.Deliver.{CanDeliver, CanHandKept}
use Rattle.delivery.proofs.Serving.{can_serve}
use Rattle.delivery.proofs.Counted.{stock_fits}

-- n units are covered of those that wait
module _ (us vs : List AccountLots) (d x s n : ℕ) (e : vs ≡ waiting us d) (left : s ≡ stock us d) (c : n ≡ covered vs (s + x)) where
  abbrev next : NextUnits
  next = record { first = covered us d; number = n }

  pub next_covered : NewlyCovered us d x next
  next_covered = record { first = refl; number = c ∙ rw (e, left) (omega (arith, covered_more us d x)) }

  -- and their records are those of the delivery
  pub next_served : (i : ℕ) (o new : List ℕ) → new ≡ over (words (hand_records i n vs)) o → Served us i d x o new n
  next_served i o new w = served us d x next next_covered i o new (w ∙ ap (λ l. over (words (hand_records i n l)) o) e)

-- there is room for them where a delivery can be made
pub can_hand_kept : (nets : List ℤ) (delivered lifts out : List ℕ) (i a x : ℕ) (k : Kept) → CanDeliver nets delivered lifts i a x out →
    Keeps (order_in false nets lifts i) (delivered_total delivered i) k → CanHandKept k i x out
can_hand_kept nets delivered lifts out i a x k can keeps =
    let us = order_in false nets lifts i in
    let d = delivered_total delivered i in
    let may = can_serve false nets delivered lifts out i a x can d refl in
    let new = next_covered us _ d x k.stock _ (waits_in us d k keeps) keeps.left refl in
    record {
      ready = keeps.ready;
      issue = can.issue;
      small = stock_fits nets delivered lifts out i a x k can keeps;
      room = omega (arith, newly_number us d x _ new, may.few, may.room);
    }
