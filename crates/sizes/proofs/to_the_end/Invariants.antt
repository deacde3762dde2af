-- The end from here, so many rounds later, is the end from the start.
use Rattle.std.proofs.Common.{◌≡◌, ◌+◌, ◌≤◌}
use Rattle.desks.specs.Desk.{plan, desk}
use Rattle.simulation.specs.Repeated.{left, ending, later}
use Rattle.rounds.specs.Turns.{CanRound}
use Rattle.sizes.proofs.to_the_end.Given as goal

abbrev pub invariant-loop-rounds : goal.invariant-loop-rounds
invariant-loop-rounds l = let p = plan l.nets l.settles l.size in record {
  can : CanRound l.nets l.settles l.runs l.counts l.size l.delivered l.inventories;
  falls : left p (desk l.delivered l.inventories 0) + l.deliveries ≤ left p (desk l.fn.delivered l.fn.inventories 0);
  few : l.rounds ≤ l.deliveries;
  same : ending p (desk l.fn.delivered l.fn.inventories 0) ≡ later l.rounds (ending p (desk l.delivered l.inventories l.deliveries));
}

abbrev pub decreases-loop-rounds : goal.decreases-loop-rounds
decreases-loop-rounds l = left (plan l.nets l.settles l.size) (desk l.delivered l.inventories 0)
