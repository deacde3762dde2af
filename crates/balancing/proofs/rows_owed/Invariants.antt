-- The flag and the tests of the issues that are left are those of all issues.
use Rattle.std.proofs.Common.{◌≡◌, ◌&&◌, ◌*◌, drop}
use Rattle.rules.specs.Book.{within_owed}
use Rattle.balancing.proofs.rows_owed.Given as goal

abbrev pub invariant-loop-i : goal.invariant-loop-i
invariant-loop-i l = l.good && within_owed (drop (l.i * 64) l.nets) (drop (l.i * 64) l.delivered) ≡ within_owed l.nets l.delivered
