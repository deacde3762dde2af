-- The flag and the tests of the issues that are left are those of all issues.
use Rattle.std.proofs.Common.{◌≡◌, ◌&&◌}
use Rattle.rules.specs.Questions.{quote_right_in, quotes_right}
use Rattle.laws.proofs.Scans.{rest_of_issues}
use Rattle.rolling.proofs.quotes_right.Given as goal

abbrev pub invariant-loop-i : goal.invariant-loop-i
invariant-loop-i l = l.good && rest_of_issues (quote_right_in l.quotes) l.i ≡ quotes_right l.quotes
