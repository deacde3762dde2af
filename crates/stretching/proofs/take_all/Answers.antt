-- The invariant: the accounts from j on are taken off.
use Prim.Native.Nat.{◌-◌}
use lib.ListN.{length}
use native.Mathlib.Omega.{arith}
use Rattle.stretching.proofs.Taking.{taking_starts, can_take, taking_next, taking_ends}
use Rattle.stretching.proofs.take_all.Goals as goal

pub loop-j-init : goal.loop-j-init
loop-j-init c =
    taking_starts c.args.out.now c.args.c c.args.at.now c.args.gaps.now (length c.args.gaps.now) c.requires

pub take_off-requires : goal.take_off-requires
take_off-requires c =
    let l = c.loop-j in
    can_take c.args.out.now c.args.c c.args.at.now c.args.gaps.now (length c.args.gaps.now) c.requires l.out l.j (l.j - 1) (omega arith) l.invariant

pub loop-j-preserved : goal.loop-j-preserved
loop-j-preserved c =
    let l = c.loop-j in
    let f = c.take_off in
    taking_next c.args.out.now c.args.c c.args.at.now c.args.gaps.now (length c.args.gaps.now) c.requires l.out l.j (l.j - 1) (omega arith) l.invariant f.new.out f.auto.out f.ensures

pub shape_of-out : goal.shape_of-out
shape_of-out c = c.loop-j.invariant.whole

pub returns : goal.returns
returns c =
    let l = c.loop-j in
    taking_ends c.args.out.now c.args.c c.args.at.now c.args.gaps.now (length c.args.gaps.now) c.requires l.out l.j (omega arith) l.invariant
