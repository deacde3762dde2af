-- The turns from here on make the round.
use Rattle.std.proofs.Common.{◌≡◌, ℕ, ◌+◌, ◌-◌, ◌≤◌}
use Rattle.desks.specs.Desk.{plan, desk, turns_from, round}
use Rattle.rounds.specs.Turns.{CanRound}
use Rattle.rounds.proofs.round.Given as goal

abbrev pub invariant-loop-t : goal.invariant-loop-t
invariant-loop-t l = let p = plan l.nets l.settles l.size in record {
  few : l.made ≤ l.t;
  can : CanRound l.nets l.settles l.runs l.counts l.size l.delivered l.inventories;
  turns : (m : ℕ) → turns_from p l.t (1024 - l.t) (desk l.delivered l.inventories (m + l.made)) ≡ round p (desk l.fn.delivered l.fn.inventories m);
}
