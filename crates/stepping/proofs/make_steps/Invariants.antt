use Rattle.laws.proofs.Pairing.{in_and_out}
use Rattle.rules.specs.Book.{entries}
use Rattle.ledger.specs.Columns.{Same}
use Rattle.stepping.proofs.Turns.{standing, Turns}
use Rattle.stepping.proofs.make_steps.Given as goal

-- what the definition makes of the first ledger is the steps made and what it makes of the ledger now
abbrev pub invariant-loop-next_t : goal.invariant-loop-next_t
invariant-loop-next_t l =
    let m = l.second in
    record {
      done :
          Turns l.today l.i l.a (entries l.entries l.issues l.froms l.tos l.fn.lots l.days) l.entries l.t l.f
          l.made.more l.made.steps l.made.cancelled l.issues l.froms l.tos l.lots l.days
          m.issues.now m.froms.now m.tos.now m.lots.now m.days.now;
      same : Same l.fn.second m;
    }

-- each step takes one of the entries in and out away
abbrev pub decreases-loop-next_t : goal.decreases-loop-next_t
decreases-loop-next_t l =
    let m = l.second in
    in_and_out l.i l.a
    (standing l.entries l.made.more l.issues l.froms l.tos l.lots l.days
    m.issues.now m.froms.now m.tos.now m.lots.now m.days.now)
