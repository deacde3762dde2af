-- The flag and the tests of the issues that are left are those of all issues.
use Rattle.std.proofs.Common.{◌≡◌, ◌&&◌}
use Rattle.rules.specs.Book.{cells_even}
use Rattle.laws.proofs.Scans.{rest_of_issues}
use Rattle.balancing.specs.EvenScan.{all_cells}
use Rattle.balancing.proofs.cells_even.Given as goal

abbrev pub invariant-loop-i : goal.invariant-loop-i
invariant-loop-i l = l.good && rest_of_issues (cells_even l.s.marks l.nets l.delivered) l.i ≡ all_cells l.s.marks l.nets l.delivered
