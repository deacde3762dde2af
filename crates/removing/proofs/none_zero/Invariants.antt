use Rattle.std.proofs.Common.{◌≡◌, true, ◌≤◌}
use Rattle.seeking.specs.Places.{NoneIn}
use Rattle.removing.specs.Moves.{zero_at}
use Rattle.removing.proofs.none_zero.Given as goal

-- where none was found yet, none stands before place k
abbrev pub invariant-loop-k : goal.invariant-loop-k
invariant-loop-k l = (l.s ≤ l.k) × (l.none ≡ true → NoneIn (zero_at l.lots) l.s l.k)
