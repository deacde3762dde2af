-- An issue's cells are a row of each column.
use Rattle.std.proofs.Common.{◌≡◌, ◌+◌, ◌-◌, ◌*◌, arith}
use Rattle.balancing.proofs.RowLaws.{owed_row}
use Rattle.balancing.proofs.rows_owed.Goals as goal

pub loop-i-preserved : goal.loop-i-preserved
loop-i-preserved c =
    let k : c.loop-i.i * 64 + 64 - c.loop-i.i * 64 ≡ 64 = omega arith in
    owed_row c.args.nets.now c.args.delivered.now c.loop-i.i c.loop-i.good _ _ (rw k at c.row_owed-good.ensures) c.loop-i.invariant
