-- The issue's order is prepared, and what its delivered total covers is counted.
use Rattle.std.proofs.Common.{◌∙◌, ap}
use Rattle.rules.specs.Measures.{sum}
use Rattle.runs.specs.Runs.{units_in}
use Rattle.runs.proofs.Cells.{row_part, total_small}
use Rattle.tickets.proofs.Standing.{covers_either, left_either}
use Rattle.tickets.proofs.stand_of.Goals as goal

pub total-total-requires : goal.total-total-requires
total-total-requires c =
    rw (row_part c.args.delivered.now c.args.i) (total_small c.args.nets.now c.args.delivered.now c.args.lifts.now c.requires.sound c.args.i c.requires.issue)

pub returns : goal.returns
unfolding units_in
returns c =
    let p = c.prepare-n.ensures in
    let t = c.total-total.ensures ∙ ap sum (row_part c.args.delivered.now c.args.i) in
    record {
      there = p.held.there;
      units = p.units;
      covers = λ new. c.handover-h.ensures.covers ∙ covers_either _ _ _ _ _ _ p.units t new;
      left = λ new. c.handover-h.ensures.left ∙ left_either _ _ _ _ _ _ p.units t new;
    }
