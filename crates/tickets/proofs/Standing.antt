-- What a total covers and what it leaves, counted on an issue's units in the order of old, is so in either order.
use mathlib.Core.Path.{◌≡◌, sym, ap, ◌∙◌}
use mathlib.Core.Bool.{Bool, false}
use mathlib.Core.List.{List}
use Prim.Native.Nat.{ℕ}
use lib.IntN.{ℤ}
use Rattle.rules.specs.Units.{AccountLots}
use Rattle.rules.specs.Handover.{covered, stock}
use Rattle.rules.specs.Book.{delivered_total, order_in}
use Rattle.laws.proofs.Dealt.{lots_in, same_covered, same_stock}
use Rattle.laws.proofs.SoundRows.{order_lots}

module _ (nets : List ℤ) (delivered lifts : List ℕ) (i : ℕ) (us : List AccountLots) (d : ℕ) (e : us ≡ order_in false nets lifts i) (q : d ≡ delivered_total delivered i) (new : Bool) where
  same_lots : lots_in us ≡ lots_in (order_in new nets lifts i)
  same_lots = ap lots_in e ∙ sym (order_lots new nets lifts i)

  pub covers_either : covered us d ≡ covered (order_in new nets lifts i) (delivered_total delivered i)
  covers_either = same_covered us (order_in new nets lifts i) same_lots d ∙ ap (covered (order_in new nets lifts i)) q

  pub left_either : stock us d ≡ stock (order_in new nets lifts i) (delivered_total delivered i)
  left_either = same_stock us (order_in new nets lifts i) same_lots d ∙ ap (stock (order_in new nets lifts i)) q
