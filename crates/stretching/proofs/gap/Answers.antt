-- By cases: no unit between, or more than one; no room; a small one; an account without a stretch.
use Prim.Native.Nat.{◌<◌}
use native.Mathlib.Omega.{arith}
use lib.ListN.{length}
use Rattle.stretching.proofs.Taking.{gap_is}
use Rattle.stretching.proofs.gap.Goals as goal

pub bounds-runs-d : goal.bounds-runs-d
bounds-runs-d c =
    let d = c.seat-d in
    let o : 0 < d.result.wide = omega (arith, c.if-d-eq0.false) in
    omega (arith, d.ensures.1.within o, d.ensures.1.few, c.requires.parted.ready.falling.there)

pub returns : goal.returns
returns c =
    let d = c.seat-d in
    let o : 0 < d.result.wide = omega (arith, c.if-d-eq0.false) in (
      omega arith,
      gap_is c.args.runs.now (length c.args.runs.now) c.args.m c.args.at.now c.args.p c.args.base c.requires
          (omega (arith, c.if-base-eq0.false)) (omega (arith, c.if-base-p.false)) (omega (arith, c.if-p-ge-MOST_GAPS.false))
          d.result d.ensures.0 d.ensures.1 o (omega (arith, c.if-at-a-eq0.false)),
    )
