-- The account's stretch has at least two units.
use mathlib.Core.Path.{◌≡◌}
use Prim.Native.Nat.{suc, ◌-◌}
use native.Mathlib.Omega.{arith}
use lib.ListN.{get_or}
use Rattle.stretching.proofs.Taking.{take_there, take_full, taken}
use Rattle.stretching.proofs.take_off.Goals as goal

pub offset_bounds-out-p : goal.offset_bounds-out-p
offset_bounds-out-p c =
    let p = get_or c.args.at.now c.args.a 0 in
    let e : p ≡ suc (p - 1) = omega (arith, c.requires.some) in
    omega (arith, take_there c.args.out.now c.args.c c.args.at.now c.args.a c.requires (p - 1) e, c.requires.whole)

pub bounds-out-p : goal.bounds-out-p
bounds-out-p c =
    let p = get_or c.args.at.now c.args.a 0 in
    let e : p ≡ suc (p - 1) = omega (arith, c.requires.some) in
    take_there c.args.out.now c.args.c c.args.at.now c.args.a c.requires (p - 1) e

pub overflow_sub-out-2 : goal.overflow_sub-out-2
overflow_sub-out-2 c =
    let p = get_or c.args.at.now c.args.a 0 in
    let e : p ≡ suc (p - 1) = omega (arith, c.requires.some) in
    omega (arith, take_full c.args.out.now c.args.c c.args.at.now c.args.a c.requires (p - 1) e)

pub returns : goal.returns
returns c =
    let p = get_or c.args.at.now c.args.a 0 in
    let e : p ≡ suc (p - 1) = omega (arith, c.requires.some) in
    taken c.args.out.now c.args.c c.args.at.now c.args.a c.requires (p - 1) e
