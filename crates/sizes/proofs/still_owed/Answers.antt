use Rattle.std.proofs.Common.{arith, length-set}
use Rattle.desks.specs.Desk.{owed_of_issue}
use Rattle.leaps.proofs.Columns.{filled}
use Rattle.sizes.proofs.Opening.{can_sum_part, missing_row, each_owed}
use Rattle.sizes.proofs.still_owed.Goals as goal

pub missing-requires : goal.missing-requires
missing-requires c = can_sum_part c.args.nets.now c.args.delivered.now c.loop-i.i c.requires.cells (omega arith)

pub loop-i-preserved : goal.loop-i-preserved
loop-i-preserved c =
    let a = c.args in
    let l = c.loop-i in
    record {
      whole = simp length-set l.invariant.whole;
      sums = filled l.owed l.i c.missing.result (owed_of_issue a.nets.now a.delivered.now) (omega arith) l.invariant.sums
          (missing_row a.nets.now a.delivered.now l.i c.missing.result c.missing.ensures);
    }

pub returns : goal.returns
returns c =
    let l = c.loop-i in
    each_owed c.args.nets.now c.args.delivered.now l.owed l.i l.invariant.whole (omega arith) l.invariant.sums
