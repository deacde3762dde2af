-- The issue's total is taken before the account's lots rise; its count rises last.
use Rattle.std.proofs.Common.{ap, ◌∙◌}
use Rattle.rules.specs.Measures.{sum}
use Rattle.runs.proofs.Cells.{row_part, total_small}
use Rattle.delivery.proofs.Serving.{can_raise, can_serve, served_after}
use Rattle.delivery.proofs.deliver_in.Goals as goal

pub total-d-requires : goal.total-d-requires
total-d-requires c =
    rw (row_part c.args.delivered.now c.args.i)
    (total_small c.args.nets.now c.args.delivered.now c.args.lifts.now c.requires.sound c.args.i c.requires.issue)

pub serve_in-n-requires : goal.serve_in-n-requires
serve_in-n-requires c =
    can_serve c.args.dealt c.args.nets.now c.args.delivered.now c.args.lifts.now c.args.out.now c.args.i c.args.a c.args.x c.requires _
    (c.total-d.ensures ∙ ap sum (row_part c.args.delivered.now c.args.i))

pub raise-requires : goal.raise-requires
raise-requires c =
    can_raise c.args.nets.now c.args.delivered.now c.args.lifts.now c.args.out.now c.args.i c.args.a c.args.x c.requires

pub returns : goal.returns
returns c =
    let r = served_after _ _ _ _ _ _ _ _ (c.total-d.ensures ∙ ap sum (row_part c.args.delivered.now c.args.i)) c.serve_in-n.ensures in
    record { column = c.raise.ensures.0; counted = c.raise.ensures.1; count = r.count; output = r.output }
