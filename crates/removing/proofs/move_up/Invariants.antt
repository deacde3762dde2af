use Rattle.removing.proofs.Moving.{Moving}
use Rattle.removing.proofs.move_up.Given as goal

-- the first k of the places have moved
abbrev pub invariant-loop-k : goal.invariant-loop-k
invariant-loop-k g l = Moving l.w l.s l.e l.fn.c l.k l.c
