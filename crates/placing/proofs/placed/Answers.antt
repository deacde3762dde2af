-- Places that are not among the units are wrong whatever is handed; else the order is lifted and the total handed on.
use Rattle.std.proofs.Common.{sym, ◌∙◌, arith}
use Rattle.runs.specs.Runs.{units_in}
use Rattle.lifted.proofs.Lifted.{can_lift_all, prepared}
use Rattle.placing.proofs.LiftLaws.{not_placed, placed_order, placed_is}
use Rattle.placing.proofs.placed.Goals as goal

pub returns-then-not-places_sound : goal.returns-then-not-places_sound
unfolding units_in
returns-then-not-places_sound c =
    not_placed c.args.nets.now c.args.lifts.now c.args.i c.ranked-n.new.runs c.ranked-n.result c.number-k.result c.requires
    c.ranked-n.ensures c.number-k.ensures _ (sym c.places_sound.ensures ∙ c.if-not-places_sound.true)

pub lift_all-m-requires : goal.lift_all-m-requires
unfolding units_in
lift_all-m-requires c =
    can_lift_all c.args.nets.now c.args.lifts.now c.args.i c.ranked-n.new.runs c.ranked-n.result
    (placed_order c.args.nets.now c.args.lifts.now c.args.i c.ranked-n.new.runs c.ranked-n.result c.number-k.result c.requires
    c.ranked-n.ensures c.number-k.ensures (sym c.places_sound.ensures ∙ c.if-not-places_sound.false))
    c.ranked-n.ensures (omega (arith, c.ranked-n.auto.runs))

pub returns : goal.returns
unfolding units_in
returns c =
    placed_is c.args.nets.now c.args.lifts.now c.args.i c.ranked-n.new.runs c.ranked-n.result c.number-k.result c.requires
    c.ranked-n.ensures c.number-k.ensures c.lift_all-m.new.runs c.lift_all-m.result c.args.d c.handover-h.result.count c.places_sound-2.result
    (prepared c.args.nets.now c.args.lifts.now c.args.i c.ranked-n.new.runs c.ranked-n.result
    (placed_order c.args.nets.now c.args.lifts.now c.args.i c.ranked-n.new.runs c.ranked-n.result c.number-k.result c.requires
    c.ranked-n.ensures c.number-k.ensures (sym c.places_sound.ensures ∙ c.if-not-places_sound.false))
    c.ranked-n.ensures c.lift_all-m.new.runs c.lift_all-m.result
    (omega (arith, c.ranked-n.auto.runs, c.lift_all-m.auto.runs)) c.lift_all-m.ensures)
    c.handover-h.ensures.covers c.places_sound-2.ensures
