-- The runs of the issue's dues hold its units.
use Rattle.std.proofs.Common.{ap, ◌∙◌, map}
use Rattle.rules.specs.Measures.{due_of}
use Rattle.runs.proofs.Cells.{row_part}
use Rattle.ranking.proofs.Sized.{can_order, ranked_at}
use Rattle.ranking.proofs.rank_issue.Goals as goal

pub order-requires : goal.order-requires
order-requires c =
    let a = c.args in
    can_order a.size a.nets.now a.i c.dues_of.new.dues _ (c.dues_of.ensures ∙ ap (map due_of) (row_part a.nets.now a.i)) c.requires

pub returns : goal.returns
returns c =
    let a = c.args in
    ranked_at a.size a.nets.now a.i c.dues_of.new.dues c.order.new.runs c.order.result c.requires.some
    (c.dues_of.ensures ∙ ap (map due_of) (row_part a.nets.now a.i)) c.order.ensures.0 c.order.ensures.1
