-- What is summed and what is left are the whole sum, so nothing on the way is larger.
use native.Mathlib.Omega.{arith}
use borrow.Author.Rules.{rules}
use Rattle.book.proofs.RowLaws.{sum_at_lem, sum_end}
use Rattle.book.proofs.total.Goals as goal

pub overflow_add-t : goal.overflow_add-t
overflow_add-t c =
    let l = c.loop-x in
    omega (arith, l.invariant, sum_at_lem c.args.d.now l.x-index (search rules), c.requires)

pub loop-x-preserved : goal.loop-x-preserved
loop-x-preserved c =
    let l = c.loop-x in
    omega (arith, l.invariant, sum_at_lem c.args.d.now l.x-index (search rules))

pub returns : goal.returns
returns c =
    let l = c.loop-x in
    omega (arith, l.invariant, sum_end c.args.d.now l.x-index (search rules))
