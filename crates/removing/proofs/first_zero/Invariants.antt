use Rattle.seeking.specs.Places.{Passed}
use Rattle.removing.specs.Moves.{zero_at}
use Rattle.removing.proofs.first_zero.Given as goal

-- none stands before place j
abbrev pub invariant-loop-j : goal.invariant-loop-j
invariant-loop-j l = Passed (zero_at l.lots) l.end l.at l.j
