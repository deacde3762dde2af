use Rattle.std.proofs.Common.{◌-◌}
use Rattle.ledger.specs.Columns.{Same}
use Rattle.removing.proofs.Sweeping.{Sweep}
use Rattle.removing.proofs.remove_zeros.Given as goal

-- one pass over the ledger, at place k
abbrev pub invariant-loop-k : goal.invariant-loop-k
invariant-loop-k l =
    let a = l.fn.ledger in
    let b = l.ledger in
    record {
      done :
          Sweep l.entries l.end l.k l.w a.issues.now a.froms.now a.tos.now a.lots.now a.days.now
          b.issues.now b.froms.now b.tos.now b.lots.now b.days.now;
      same : Same a b;
    }

abbrev pub decreases-loop-k : goal.decreases-loop-k
decreases-loop-k l = l.entries - l.k
