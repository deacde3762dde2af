use native.Mathlib.Omega.{arith}
use Rattle.cutting.specs.Write.{lending}
use Rattle.cutting.proofs.Fails.{entered}
use Rattle.cutting.proofs.enter.Goals as goal

pub record-requires : goal.record-requires
record-requires c =
    let p = c.requires in
    record {
      room = omega (arith, p.write.room);
      head = record { kinds = omega arith; issues = p.issue; froms = p.from; tos = p.to };
      lots = omega (arith, p.lots);
    }

pub returns-clause-done : goal.returns-clause-done
returns-clause-done c =
    let a = c.args in
    entered a.e a.n (lending a.ledger.now a.out.now) (lending c.append.new.ledger c.«record».new.part)
    (omega (arith, c.requires.write.most)) c.append.ensures.done c.«record».ensures
