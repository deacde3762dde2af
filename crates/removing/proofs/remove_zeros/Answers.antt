use Rattle.std.proofs.Common.{rules}
use Rattle.ledger.proofs.Same.{same_then}
use Rattle.removing.proofs.Sweeping.{none_goes, sweep_starts, sweep_ends_at, sweep_more, sweep_unused, sweep_ends}
use Rattle.removing.proofs.remove_zeros.Goals as goal

pub returns-in_default-clause-done : goal.returns-in_default-clause-done
returns-in_default-clause-done c = none_goes c.requires (rw c.shared.ensures.lots at c.in_default.ensures)

pub loop-k-init : goal.loop-k-init
loop-k-init c = record { done = sweep_starts c.requires (rw c.shared.ensures.lots at c.in-Some.ensures); same = search rules }

pub loop-k-preserved : goal.loop-k-preserved
loop-k-preserved c =
    let s = c.loop-k.invariant.done in
    let h = c.loop-k-test.true in
    record {
      done = sweep_more s h (rw c.unwrap_or-e.ensures (sweep_ends_at s h _ (rw c.shared-in-loop-k.ensures.lots at c.first_zero-in-loop-k.ensures))) c.move_all.ensures.done;
      same = same_then c.loop-k.invariant.same c.move_all.ensures.same;
    }

pub clear-requires : goal.clear-requires
clear-requires c = sweep_unused c.loop-k.invariant.done c.loop-k-test.false

pub returns-clause-done : goal.returns-clause-done
returns-clause-done c = sweep_ends c.loop-k.invariant.done c.loop-k-test.false c.clear.ensures.done

pub returns-clause-same : goal.returns-clause-same
returns-clause-same c = same_then c.loop-k.invariant.same c.clear.ensures.same
