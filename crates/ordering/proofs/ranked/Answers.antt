-- The runs of the issue's dues hold its units in the order without lifts.
use mathlib.Core.Path.{ap, ◌∙◌}
use mathlib.Core.List.{map}
use Rattle.rules.specs.Measures.{due_of}
use Rattle.runs.proofs.Cells.{row_part}
use Rattle.runs.proofs.Loops.{can_rank, ranked_nets}
use Rattle.ordering.proofs.ranked.Goals as goal

pub order-requires : goal.order-requires
order-requires c =
    let d = c.dues_of in
    can_rank c.args.nets.now c.args.i d.new.dues _
    (d.ensures ∙ ap (map due_of) (row_part c.args.nets.now c.args.i)) c.requires

pub returns : goal.returns
returns c =
    let d = c.dues_of in
    let o = c.order in
    ranked_nets c.args.nets.now c.args.i d.new.dues o.new.runs o.result
    (d.ensures ∙ ap (map due_of) (row_part c.args.nets.now c.args.i)) o.ensures.0 o.ensures.1
