-- The flag and the tests of the issues that are left are those of all issues.
use Rattle.std.proofs.Common.{◌≡◌, ◌&&◌, false}
use Rattle.rules.specs.Book.{order_in, lifts_sound}
use Rattle.laws.proofs.Scans.{rest_of_issues}
use Rattle.placing.specs.LiftScan.{all_lifts}
use Rattle.placing.proofs.lifts_sound.Given as goal

abbrev pub invariant-loop-i : goal.invariant-loop-i
invariant-loop-i l =
    l.good && rest_of_issues (lifts_sound l.phase (order_in false l.nets l.lifts) l.delivered l.lifts) l.i
    ≡ all_lifts l.phase l.nets l.delivered l.lifts
