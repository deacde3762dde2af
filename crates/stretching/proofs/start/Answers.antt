-- The issue is prepared, what its delivered total covers is passed, and the stretches of what waits are made.
use mathlib.Core.Path.{refl}
use native.Mathlib.Omega.{arith}
use Rattle.gathering.proofs.Gathers.{zeros}
use Rattle.stretching.proofs.Starting.{can_wait, starts_none, starts_fits, starts_some}
use Rattle.stretching.proofs.start.Goals as goal

pub feed_waiting-c-requires : goal.feed_waiting-c-requires
feed_waiting-c-requires c =
    let p = c.prepare-p in
    let h = c.handover-h in
    can_wait c.args.nets.now c.args.lifts.now c.args.i c.requires.order p.new.keys p.result.ranks p.ensures.ranks c.args.d p.new.runs p.result.lifted p.ensures.lifted h.result h.ensures
    c.number-count.result c.number-count.ensures p.new.runs _ (omega (arith, p.auto.runs, c.requires.whole)) refl (zeros 64)

pub returns-then-c-eq0 : goal.returns-then-c-eq0
returns-then-c-eq0 c =
    let p = c.prepare-p in
    let h = c.handover-h in
    let w = c.feed_waiting-c in
    rw c.stand.ensures
    (starts_none c.args.nets.now c.args.lifts.now c.args.i c.requires.order p.new.keys p.result.ranks p.ensures.ranks c.args.d p.new.runs p.result.lifted p.ensures.lifted h.result h.ensures
    w.new.out w.result w.ensures (omega arith))

pub overflow_sub-key : goal.overflow_sub-key
overflow_sub-key c =
    let p = c.prepare-p in
    let h = c.handover-h in
    let w = c.feed_waiting-c in
    starts_fits c.args.nets.now c.args.lifts.now c.args.i c.requires.order p.new.keys p.result.ranks p.ensures.ranks c.args.d p.new.runs p.result.lifted p.ensures.lifted h.result h.ensures
    w.new.out w.result w.ensures (omega arith)

pub returns : goal.returns
returns c =
    let p = c.prepare-p in
    let h = c.handover-h in
    let w = c.feed_waiting-c in
    rw c.stand-2.ensures
    (starts_some c.args.nets.now c.args.lifts.now c.args.i c.requires.order p.new.keys p.result.ranks p.ensures.ranks c.args.d p.new.runs p.result.lifted p.ensures.lifted h.result h.ensures
    w.new.out w.result w.ensures (omega arith))
