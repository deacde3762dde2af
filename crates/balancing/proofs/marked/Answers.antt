-- Nothing is before apart yet; then a number more; above the last mark there is none.
use Rattle.std.proofs.Common.{◌≡◌, refl, arith, length-set}
use Rattle.balancing.proofs.EvenLaws.{table_empty, table_more, table_whole}
use Rattle.balancing.proofs.marked.Goals as goal

pub loop-i-init : goal.loop-i-init
loop-i-init c = (refl, table_empty c.args.marks.now 256)

pub loop-i-preserved : goal.loop-i-preserved
loop-i-preserved c =
    let l = c.loop-i in (simp length-set l.invariant.0, table_more c.args.marks.now l.marked l.i (omega (arith, l.invariant.0)) l.invariant.1)

pub returns : goal.returns
returns c =
    let l = c.loop-i in
    let last : l.i ≡ 16 = omega arith in
    (l.invariant.0, table_whole c.args.marks.now l.marked 16 c.requires (rw last at l.invariant.1))
