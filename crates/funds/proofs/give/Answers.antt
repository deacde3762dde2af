-- The order, the rounds along it, and the shares by number are those of the definition.
use Rattle.std.proofs.Common.{◌∙◌}
use Rattle.funds.proofs.Giving.{ranked, can_allot, places_kept, order_room, given_shares}
use Rattle.funds.proofs.give.Goals as goal

pub allot-requires : goal.allot-requires
allot-requires c =
    let a = c.args in
    let order = ranked a.averages.now c.rank.new.order (c.rank.auto.order ∙ c.requires.places) c.rank.ensures in
    can_allot a.averages.now a.bases.now a.order.now a.given.now a.out.now a.funds c.requires c.rank.new.order order

pub by_number-requires : goal.by_number-requires
by_number-requires c =
    let a = c.args in
    let order = ranked a.averages.now c.rank.new.order (c.rank.auto.order ∙ c.requires.places) c.rank.ensures in (
      places_kept a.averages.now a.bases.now a.order.now a.given.now a.out.now a.funds c.requires c.rank.new.order order
          c.allot.new.given c.allot.ensures,
      order_room a.averages.now a.bases.now a.order.now a.given.now a.out.now a.funds c.requires c.rank.new.order order,
    )

pub returns : goal.returns
returns c =
    let a = c.args in
    let order = ranked a.averages.now c.rank.new.order (c.rank.auto.order ∙ c.requires.places) c.rank.ensures in
    given_shares a.averages.now a.bases.now a.order.now a.given.now a.out.now a.funds c.requires c.rank.new.order order
    c.allot.new.given c.by_number.new.out c.allot.ensures c.by_number.ensures
