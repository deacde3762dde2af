use Rattle.std.proofs.Common.{◌+◌, length}
use Rattle.units.specs.Cursor.{InRange}
use Rattle.ledger.specs.Columns.{Same}
use Rattle.cutting.specs.Write.{lending, fail_records}
use Rattle.cutting.specs.Issue.{entries_on}
use Rattle.cutting.proofs.Writing.{Laying}
use Rattle.cutting.proofs.lay.Given as goal

-- writing the entries from the first cursor on is writing those from this one on, behind what is done
abbrev pub invariant-overlaps : goal.invariant-overlaps
invariant-overlaps l =
    let all = entries_on l.day l.i l.runs l.p.n l.missing l.p.cursor in
    let rest = entries_on l.day l.i l.runs l.p.n l.missing l.cur in
    InRange l.cur
    × Laying all rest (fail_records all) (fail_records rest) l.n (lending l.fn.ledger l.fn.out) (l.n + l.done) l.done (lending l.ledger l.out)
    × Same l.fn.ledger l.ledger

abbrev pub decreases-overlaps : goal.decreases-overlaps
decreases-overlaps l = length (entries_on l.day l.i l.runs l.p.n l.missing l.cur)
