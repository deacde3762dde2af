-- What is made is of the issue's units in their order and of its delivered lots.
use Rattle.runs.proofs.Cells.{row_part, total_small}
use Rattle.delivery.proofs.make.Goals as goal

pub total-d-requires : goal.total-d-requires
total-d-requires c =
    rw (row_part c.args.delivered.now c.args.i)
    (total_small c.args.nets.now c.args.delivered.now c.args.lifts.now c.requires.sound c.args.i c.requires.issue)
