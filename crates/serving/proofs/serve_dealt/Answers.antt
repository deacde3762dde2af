-- What is covered is counted on the lifted runs of the order of old; the units from there on are dealt out and handed over.
use mathlib.Core.Path.{sym, ap, ◌∙◌}
use mathlib.Core.Bool.{true}
use mathlib.Core.List.{List}
use Prim.Native.Nat.{ℕ, ◌≤◌}
use native.Mathlib.Omega.{arith}
use lib.ListN.{length, take, drop, replicate, length-drop}
use lib.Seq.{length-take-le}
use Rattle.rules.specs.Book.{order_in}
use Rattle.rules.specs.Records.{words, over}
use Rattle.laws.proofs.Handover.{covered_le}
use Rattle.laws.proofs.Dealt.{lots_in}
use Rattle.laws.proofs.SoundRows.{order_lots}
use Rattle.runs.specs.Runs.{units_in}
use Rattle.handing.specs.Handing.{NewlyCovered}
use Rattle.serving.proofs.Served.{newly_there, newly_number, newly_same, served, dealt_number, dealt_records}
use Rattle.serving.proofs.serve_dealt.Goals as goal

-- places for them
abbrev places : List ℕ
places = replicate 264 0

pub slice_bounds-lent-end : goal.slice_bounds-lent-end
unfolding units_in
slice_bounds-lent-end c =
    let a = c.args in
    let newly : NewlyCovered (order_in true a.nets.now a.lifts.now a.i) a.d a.x c.newly_covered-p.result =
    newly_same _ _ _ _ _ (ap lots_in c.prepare-ready.ensures.lifted.units ∙ sym (order_lots true a.nets.now a.lifts.now a.i)) c.newly_covered-p.ensures in
    sym (length-take-le c.newly_covered-p.result.number places (omega (arith, newly_number _ _ _ _ newly, c.requires.few)))

pub slice_bounds-dealt-end : goal.slice_bounds-dealt-end
unfolding units_in
slice_bounds-dealt-end c =
    let a = c.args in
    let newly : NewlyCovered (order_in true a.nets.now a.lifts.now a.i) a.d a.x c.newly_covered-p.result =
    newly_same _ _ _ _ _ (ap lots_in c.prepare-ready.ensures.lifted.units ∙ sym (order_lots true a.nets.now a.lifts.now a.i)) c.newly_covered-p.ensures in
    omega (arith, newly_number _ _ _ _ newly, c.requires.few)

pub units_from-requires : goal.units_from-requires
unfolding units_in
units_from-requires c =
    let a = c.args in
    let us = order_in true a.nets.now a.lifts.now a.i in
    let p = c.newly_covered-p.result in
    let newly : NewlyCovered us a.d a.x p =
    newly_same _ _ _ _ _ (ap lots_in c.prepare-ready.ensures.lifted.units ∙ sym (order_lots true a.nets.now a.lifts.now a.i)) c.newly_covered-p.ensures in
    let few : p.number ≤ length places = omega (arith, newly_number _ _ _ _ newly, c.requires.few) in
    record {
      nets = a.nets.now;
      order = c.requires.order;
      ranked = c.prepare-ready.ensures.ranks;
      there =
          omega (
            arith,
            length-take-le p.number places few,
            newly_there us a.d a.x p newly,
            newly.first,
            length-drop p.first us,
            covered_le us a.d,
          );
    }

pub hand-requires : goal.hand-requires
unfolding units_in
hand-requires c =
    let a = c.args in
    let us = order_in true a.nets.now a.lifts.now a.i in
    let p = c.newly_covered-p.result in
    let newly : NewlyCovered us a.d a.x p =
    newly_same _ _ _ _ _ (ap lots_in c.prepare-ready.ensures.lifted.units ∙ sym (order_lots true a.nets.now a.lifts.now a.i)) c.newly_covered-p.ensures in
    let few : p.number ≤ length places = omega (arith, newly_number _ _ _ _ newly, c.requires.few) in
    let lent = length-take-le p.number places few in
    record {
      issue = c.requires.order.issue;
      there = dealt_number a.nets.now a.lifts.now a.i p.first p.number c.units_from.new.out (c.units_from.auto.out ∙ lent)
          (c.units_from.ensures a.nets.now c.requires.order c.prepare-ready.ensures.ranks ∙ ap (λ n. take n (drop p.first us)) lent);
      room = omega (arith, newly_number _ _ _ _ newly, c.requires.few, c.requires.room);
    }

pub returns : goal.returns
unfolding units_in
returns c =
    let a = c.args in
    let us = order_in true a.nets.now a.lifts.now a.i in
    let p = c.newly_covered-p.result in
    let newly : NewlyCovered us a.d a.x p =
    newly_same _ _ _ _ _ (ap lots_in c.prepare-ready.ensures.lifted.units ∙ sym (order_lots true a.nets.now a.lifts.now a.i)) c.newly_covered-p.ensures in
    let few : p.number ≤ length places = omega (arith, newly_number _ _ _ _ newly, c.requires.few) in
    let lent = length-take-le p.number places few in
    served us a.d a.x p newly a.i a.out.now c.hand.new.out
    (c.hand.ensures
    ∙ ap (λ rs. over (words rs) a.out.now)
    (dealt_records a.nets.now a.lifts.now a.i p.first p.number c.units_from.new.out (c.units_from.auto.out ∙ lent)
    (c.units_from.ensures a.nets.now c.requires.order c.prepare-ready.ensures.ranks ∙ ap (λ n. take n (drop p.first us)) lent) a.i))
