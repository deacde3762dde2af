-- An issue's nets are a row of the column.
use Rattle.std.proofs.Common.{◌≡◌, ◌+◌, ◌-◌, ◌*◌, arith}
use Rattle.rules.specs.Book.{row, balanced}
use Rattle.laws.proofs.Scans.{issues_more}
use Rattle.balancing.proofs.RowLaws.{row_within, balance_start}
use Rattle.balancing.proofs.rows_balanced.Goals as goal

pub loop-i-init : goal.loop-i-init
loop-i-init c = balance_start _

pub row_balanced-good-requires : goal.row_balanced-good-requires
row_balanced-good-requires c =
    let k : c.loop-i.i * 64 + 64 - c.loop-i.i * 64 ≡ 64 = omega arith in
    rw k (row_within c.args.nets.now c.loop-i.i c.requires.0 c.requires.1 (omega arith))

pub loop-i-preserved : goal.loop-i-preserved
loop-i-preserved c =
    let k : c.loop-i.i * 64 + 64 - c.loop-i.i * 64 ≡ 64 = omega arith in
    issues_more (λ j. balanced (row j c.args.nets.now)) c.loop-i.i c.loop-i.good _ _ (omega arith) (rw k at c.row_balanced-good.ensures) c.loop-i.invariant
