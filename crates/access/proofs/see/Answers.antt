-- The entry at the place found, or none.
use Rattle.std.proofs.Common.{rules, arith}
use mir.Syntax.{w32, w64}
use mir.ValLaws.{to_z-of_z}
use Rattle.rules.specs.Book.{net_at}
use Rattle.rules.specs.Access.{charge_at}
use Rattle.access.proofs.Placing.{see_none, see_one}
use Rattle.access.proofs.see.Goals as goal
use Rattle.access.proofs.see.Goals.{in-Some, in-None}

pub returns : goal.returns
returns c =
    let a = c.args in
    rw (to_z-of_z w32 (net_at a.nets.now a.i a.a) (search rules), to_z-of_z w64 (charge_at a.charges.now a.a) (search rules))
    (elim c.match-place_of.branch [
      | in-Some w ↦
          let p = rw w.in-Some.is at c.place_of.ensures in
          rw w.entry-is (see_one a.count a.nets.now a.charges.now a.ledger a.i a.a a.k _ p.place p.within)
      | in-None w ↦
          rw w.entry-is (see_none a.count a.nets.now a.charges.now a.ledger a.i a.a a.k _ (rw w.in-None.is at c.place_of.ensures) (omega arith))
    ])
