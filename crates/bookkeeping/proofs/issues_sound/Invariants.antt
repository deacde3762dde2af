-- The flag and the test of what is left are together the test of the whole.
use Rattle.std.proofs.Common.{◌≡◌, ◌&&◌, drop}
use Rattle.rules.specs.Book.{all}
use Rattle.bookkeeping.specs.Columns.{issue_sound}
use Rattle.bookkeeping.proofs.issues_sound.Given as goal

abbrev pub invariant-loop-i : goal.invariant-loop-i
invariant-loop-i l = l.good && all issue_sound (drop l.i-index l.issues) ≡ all issue_sound l.issues
