-- By cases: the unit between is kept for later, or the span before is fed.
use native.Mathlib.Omega.{arith}
use lib.ListN.{length}
use Rattle.stretching.proofs.Taking.{pass_on, pass_fed}
use Rattle.stretching.proofs.pass.Goals as goal

pub bounds-gaps-p : goal.bounds-gaps-p
bounds-gaps-p c = omega (arith, c.in-Some.ensures.1.few, c.requires.ready.waits.held)

pub overflow_add-pending : goal.overflow_add-pending
overflow_add-pending c = omega (arith, c.in-Some.ensures.1.next, c.requires.there, c.requires.ready.most)

pub overflow_add-pending-in-Some : goal.overflow_add-pending-in-Some
overflow_add-pending-in-Some c = omega (arith, c.in-Some.ensures.1.next, c.requires.there, c.requires.ready.most)

pub returns-in-Some : goal.returns-in-Some
returns-in-Some c =
    let g = c.in-Some in
    λ us w. pass_on c.args.runs.now (length c.args.runs.now) c.args.m c.args.out.now c.args.c c.args.at.now c.args.gaps.now c.args.p c.args.base c.args.len c.requires.there g.a g.ensures.0 g.ensures.1 us w

pub returns : goal.returns
returns c =
    let f = c.feed_pending-count in
    λ us w. pass_fed c.args.runs.now (length c.args.runs.now) c.args.m c.args.out.now c.args.c c.args.at.now c.args.gaps.now c.args.p c.args.base c.args.len c.requires.there f.new.out f.new.at f.result f.auto.out f.ensures us w
