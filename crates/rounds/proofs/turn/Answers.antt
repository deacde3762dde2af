-- A turn with nothing to deliver, and one with a delivery.
use Rattle.std.proofs.Common.{sym, ◌∙◌}
use borrow.Author.Tests.{ne_eqb}
use Rattle.rounds.proofs.Turning.{turned_none, turned_some}
use Rattle.rounds.proofs.turn.Goals as goal

pub returns-then-x-eq0 : goal.returns-then-x-eq0
returns-then-x-eq0 c =
    let a = c.args in
    turned_none a.nets.now a.settles.now a.size a.a a.i a.delivered.now a.inventories.now (sym c.amount-x.ensures ∙ c.if-x-eq0.true)

pub returns : goal.returns
returns c =
    let a = c.args in
    turned_some a.nets.now a.settles.now a.runs.now a.size a.a a.i a.delivered.now _ a.inventories.now _
    c.amount-x.result c.requires c.amount-x.ensures (ne_eqb _ _ c.if-x-eq0.false) c.deliver.ensures
