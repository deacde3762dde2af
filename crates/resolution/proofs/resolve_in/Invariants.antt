use Rattle.std.proofs.Common.{◌<◌, ◌-◌}
use Rattle.ledger.specs.Columns.{Same, entries_in}
use Rattle.resolution.proofs.Meeting.{Meets, Front}
use Rattle.resolution.proofs.resolve_in.Given as goal

-- one pass over the ledger, at place k; entries before the first that is met stay as they were
abbrev pub invariant-loop-left : goal.invariant-loop-left
invariant-loop-left l =
    let b = l.ledger in
    (l.k < l.entries)
    × Meets l.i l.a l.x (entries_in l.entries l.fn.ledger) l.entries l.k l.n l.left
    b.issues.now b.froms.now b.tos.now b.lots.now b.days.now l.fn.out l.out
    × Front l.first l.k b.lots.now
    × Same l.fn.ledger b

abbrev pub decreases-loop-left : goal.decreases-loop-left
decreases-loop-left l = l.entries - l.k
