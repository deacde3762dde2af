use Rattle.ledger.proofs.Same.{same_then}
use Rattle.ledger.proofs.Entries.{joined_more, joined_ends}
use Rattle.ledger.proofs.append_all.Goals as goal

pub loop-j-preserved : goal.loop-j-preserved
loop-j-preserved c =
    record {
      done = joined_more c.loop-j.invariant.done c.loop-j-test.true (rw c.entry_at.ensures at c.append.ensures.done);
      same = same_then c.loop-j.invariant.same c.append.ensures.same;
    }

pub returns-clause-done : goal.returns-clause-done
returns-clause-done c = joined_ends c.loop-j.invariant.done c.loop-j-test.false
