-- The entries after the first k are those from place n on after the first `left`.
use Rattle.access.proofs.Placing.{Seeking}
use Rattle.access.proofs.place_of.Given as goal

abbrev pub invariant-loop-n : goal.invariant-loop-n
invariant-loop-n l = Seeking l.count l.ledger.issues.now l.ledger.froms.now l.ledger.tos.now l.i l.a l.k l.n l.left
