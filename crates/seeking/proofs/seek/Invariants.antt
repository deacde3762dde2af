use Rattle.seeking.specs.Places.{is_at, Passed}
use Rattle.seeking.proofs.seek.Given as goal

-- none stands before place j
abbrev pub invariant-loop-j : goal.invariant-loop-j
invariant-loop-j l = Passed (is_at l.issues l.accounts l.i l.a) l.entries l.at l.j
