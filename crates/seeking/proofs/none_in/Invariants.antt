use Rattle.std.proofs.Common.{◌≡◌, true, ◌≤◌}
use Rattle.seeking.specs.Places.{is_at, NoneIn}
use Rattle.seeking.proofs.none_in.Given as goal

-- where none was found yet, none stands before place k
abbrev pub invariant-loop-k : goal.invariant-loop-k
invariant-loop-k l = (l.s ≤ l.k) × (l.none ≡ true → NoneIn (is_at l.issues l.accounts l.i l.a) l.s l.k)
