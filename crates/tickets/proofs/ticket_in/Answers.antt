-- A unit before the handed ones, one that there is not, and one that waits.
use Rattle.std.proofs.Common.{◌∙◌, sym}
use Rattle.tickets.proofs.Places.{count_at_lem}
use Rattle.tickets.proofs.Tickets.{is_handed_lem, found_some, found_none}
use Rattle.tickets.proofs.ticket_in.Goals as goal

pub returns-then-k-p : goal.returns-then-k-p
returns-then-k-p c = is_handed_lem _ _ _ _ _ _ c.if-k-p.true

pub returns-in_default : goal.returns-in_default
returns-in_default c = found_none _ _ _ _ _ _ c.if-k-p.false (sym c.in_default.is ∙ c.unit_in.ensures)

pub returns : goal.returns
returns c = found_some _ _ _ _ _ _ _ _ c.if-k-p.false (sym c.in-Some.is ∙ c.unit_in.ensures) (sym (count_at_lem c.args.lifts.now c.args.i))
