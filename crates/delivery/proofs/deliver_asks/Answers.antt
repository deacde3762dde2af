-- What is owed in a cell is at most the size of its net, so lots beside what was delivered fit.
use mathlib.Core.Path.{sym, ◌∙◌}
use Prim.Native.Nat.{◌+◌, ◌*◌}
use native.Mathlib.Omega.{arith}
use borrow.Author.Tests.{leb-true}
use lib.Dec.{leb}
use Rattle.rules.specs.Measures.{most_lots}
use Rattle.laws.proofs.Basics.{and_right}
use Rattle.runs.proofs.Cells.{cell_owed}
use Rattle.delivery.proofs.deliver_asks.Goals as goal

pub overflow_add-delivered : goal.overflow_add-delivered
overflow_add-delivered c =
    let x = leb-true c.args.x most_lots (and_right (leb 1 c.args.x) (leb c.args.x most_lots) (sym c.lots_right.ensures ∙ c.if-not-lots_right.false)) in
    omega (arith, x, cell_owed c.args.nets.now c.args.delivered.now c.requires (c.args.i * 64 + c.args.a))
