use Rattle.ledger.specs.Columns.{entries_in, Same}
use Rattle.ledger.proofs.Entries.{Joined}
use Rattle.ledger.proofs.append_all.Given as goal

-- the first j of the other's entries are there
abbrev pub invariant-loop-j : goal.invariant-loop-j
invariant-loop-j l =
    let m = l.other in
    let a = l.ledger in
    record {
      done :
          Joined (entries_in l.entries l.fn.ledger) l.entries l.j l.more m.issues.now m.froms.now m.tos.now m.lots.now m.days.now
          a.issues.now a.froms.now a.tos.now a.lots.now a.days.now;
      same : Same l.fn.ledger a;
    }
