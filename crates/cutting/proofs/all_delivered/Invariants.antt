use Rattle.std.proofs.Common.{◌≡◌, ◌&&◌, length}
use Rattle.cutting.specs.Issue.{all_delivered}
use Rattle.cutting.proofs.all_delivered.Given as goal

-- the flag and the tests of the accounts that are left are those of all accounts
abbrev pub invariant-loop-n : goal.invariant-loop-n
invariant-loop-n l = record {
  lengths : length l.n-iterator.a.rest.now ≡ length l.n-iterator.b.rest.now;
  left : l.good && all_delivered l.n-iterator.a.rest.now l.n-iterator.b.rest.now ≡ all_delivered l.net l.delivered;
}
