-- The order, the rounds and the shares by number put together: what the code lends on is what the definition says.
use mathlib.Core.Path.{◌≡◌, sym, ap, ◌∙◌}
use mathlib.Core.List.{List}
use Prim.Native.Nat.{ℕ, ◌≤◌}
use native.Mathlib.Omega.{arith}
use lib.ListN.{length, take, replicate, length-map, length-replicate}
use lib.Seq.{take_all}
use Rattle.rules.specs.Records.{over}
use Rattle.contributions.specs.Order.{amount_of, order_of}
use Rattle.contributions.specs.Rounds.{rounds, allotted, in_order}
use Rattle.contributions.specs.Funds.{numbered, shares_of}
use Rattle.allotting.specs.Steps.{CanAllot}
use Rattle.funds.specs.Steps.{CanGive}
use Rattle.apportioning.proofs.Order.{length_order, bases_in_order}
use Rattle.apportioning.proofs.Rounds.{none_sum, length_rounds}

-- an order with a place for each participant
pub ranked : (averages order : List ℕ) → length order ≡ length averages → take (length averages) order ≡ order_of averages →
    order ≡ order_of averages
ranked averages order l e = sym (take_all (length averages) order (omega arith)) ∙ e

module _ (averages bases order₀ given out : List ℕ) (funds : ℕ) (can : CanGive averages bases order₀ given out funds)
    (order : List ℕ) (ranks : order ≡ order_of averages) where
  pub can_allot : CanAllot bases order given funds
  can_allot =
      rw (ranks, can.none)
      (record {
        places = length-replicate (length averages) 0 ∙ sym (length_order averages);
        covered = omega (arith, none_sum (length averages), can.covered, bases_in_order averages bases can.columns);
      })

  pub places_kept : (after : List ℕ) → after ≡ rounds funds funds (in_order bases order) given → length after ≡ length order
  places_kept after e =
      ap length e ∙ length_rounds funds funds (in_order bases order) given ∙ ap length can.none
      ∙ length-replicate (length averages) 0 ∙ sym (ap length ranks ∙ length_order averages)

  pub order_room : length order ≤ length out
  order_room = omega (arith, can.room, ap length ranks, length_order averages)

  pub given_shares : (after last : List ℕ) → after ≡ rounds funds funds (in_order bases order) given → last ≡ over (numbered order after) out →
      last ≡ over (shares_of averages bases funds) out
  unfolding shares_of allotted
  given_shares after last e f =
      let n : length averages ≡ length (in_order bases (order_of averages)) =
      sym (length-map (order_of averages) (amount_of bases) ∙ length_order averages) in
      let a : after ≡ rounds funds funds (in_order bases (order_of averages)) (replicate (length (in_order bases (order_of averages))) 0) =
      e ∙ ap (λ o. rounds funds funds (in_order bases o) given) ranks
      ∙ ap (rounds funds funds (in_order bases (order_of averages))) (can.none ∙ ap (λ m. replicate m 0) n) in
      f ∙ ap (λ o. over (numbered o after) out) ranks ∙ ap (λ x. over (numbered (order_of averages) x) out) a
