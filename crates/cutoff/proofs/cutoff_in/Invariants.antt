use Rattle.ledger.specs.Columns.{Same}
use Rattle.cutting.specs.Write.{lending}
use Rattle.cutoff.proofs.Going.{LayingAll}
use Rattle.cutoff.proofs.cutoff_in.Given as goal

-- the cutoff of all issues from the start is the cutoff of the issues from i on from here
abbrev pub invariant-loop-i : goal.invariant-loop-i
invariant-loop-i l =
    record {
      done : LayingAll l.dealt l.nets l.delivered l.lifts l.day l.entries (lending l.fn.ledger l.fn.out) l.i l.n l.w (lending l.ledger l.out);
      same : Same l.fn.ledger l.ledger;
    }
