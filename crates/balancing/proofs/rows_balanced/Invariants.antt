-- The flag and the tests of the issues that are left are those of all issues.
use Rattle.std.proofs.Common.{◌≡◌, ◌&&◌}
use Rattle.rules.specs.Book.{row, balanced}
use Rattle.laws.proofs.Scans.{rest_of_issues}
use Rattle.balancing.specs.Scan.{all_balanced}
use Rattle.balancing.proofs.rows_balanced.Given as goal

abbrev pub invariant-loop-i : goal.invariant-loop-i
invariant-loop-i l = l.good && rest_of_issues (λ j. balanced (row j l.nets)) l.i ≡ all_balanced l.nets
