-- The invariant: the stretches of what waits, up to unit p, once what is pending is fed.
use mathlib.Core.Path.{refl, sym, ◌∙◌}
use Prim.Native.Nat.{◌<◌}
use native.Mathlib.Omega.{arith}
use lib.ListN.{length}
use Rattle.stretching.proofs.Starting.{waits_starts, waits_ends, can_feed, can_pass, waits_next, step_on}
use Rattle.stretching.proofs.feed_waiting.Goals as goal

pub loop-p-init : goal.loop-p-init
loop-p-init c =
    waits_starts c.args.runs.now (length c.args.runs.now) c.args.m c.args.words.now c.args.k c.args.count c.args.out.now c.args.at.now c.requires _ refl

pub pass-r-requires : goal.pass-r-requires
pass-r-requires c =
    let l = c.loop-p in
    let g = c.before_lifts-s in
    let x = c.min-x in
    can_pass c.args.runs.now (length c.args.runs.now) c.args.m c.args.words.now c.args.k c.args.count c.args.out.now c.args.at.now c.requires l.out l.at l.gaps l.p l.c l.q l.invariant (omega arith) g.result g.ensures x.result x.ensures

pub overflow_add-p : goal.overflow_add-p
overflow_add-p c =
    let x = c.min-x in
    omega (arith, x.ensures, c.requires.most)

pub loop-p-smaller : goal.loop-p-smaller
loop-p-smaller c =
    let l = c.loop-p in
    let g = c.before_lifts-s in
    let x = c.min-x in
    omega (arith, x.ensures, step_on c.args.runs.now (length c.args.runs.now) c.args.m c.args.words.now c.args.k c.args.count c.args.out.now c.args.at.now c.requires l.out l.at l.gaps l.p l.c l.q l.invariant (omega arith) g.result g.ensures x.result x.ensures)

pub loop-p-preserved : goal.loop-p-preserved
loop-p-preserved c =
    let l = c.loop-p in
    let g = c.before_lifts-s in
    let x = c.min-x in
    let h : l.p < c.args.count = omega arith in
    let f = c.pass-r in
    waits_next c.args.runs.now (length c.args.runs.now) c.args.m c.args.words.now c.args.k c.args.count c.args.out.now c.args.at.now c.requires l.out l.at l.gaps l.p l.c l.q l.invariant h g.result g.ensures x.result x.ensures f.new.out f.new.at f.new.gaps f.result f.ensures

pub feed_pending-requires : goal.feed_pending-requires
feed_pending-requires c =
    let l = c.loop-p in
    can_feed c.args.runs.now (length c.args.runs.now) c.args.m c.args.words.now c.args.k c.args.count c.args.out.now c.args.at.now c.requires l.out l.at l.gaps l.p l.c l.q l.invariant

pub shape_of-out : goal.shape_of-out
shape_of-out c =
    let l = c.loop-p in
    let f = c.feed_pending in
    f.auto.out ∙ l.invariant.done.whole ∙ sym c.requires.whole

pub shape_of-at : goal.shape_of-at
shape_of-at c =
    let l = c.loop-p in
    let f = c.feed_pending in
    f.auto.at ∙ l.invariant.done.index.accounts ∙ sym c.requires.accounts

pub returns : goal.returns
returns c =
    let l = c.loop-p in
    let f = c.feed_pending in
    waits_ends c.args.runs.now (length c.args.runs.now) c.args.m c.args.words.now c.args.k c.args.count c.args.out.now c.args.at.now c.requires l.out l.at l.gaps l.p l.c l.q l.invariant (omega arith) f.new.out f.new.at f.result f.auto.out f.ensures
