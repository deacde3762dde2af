-- The invariant: what was added of all that the runs have, and what is left of it.
use mathlib.Core.Path.{sym, ◌∙◌}
use native.Mathlib.Omega.{arith}
use Rattle.stretching.proofs.Feeding.{feed_starts, can_add, feed_next, feed_ends}
use Rattle.stretching.proofs.feed.Goals as goal

pub loop-j-init : goal.loop-j-init
loop-j-init c =
    feed_starts c.args.runs.now c.args.x c.args.y c.args.round c.args.rounds c.args.out.now c.args.c c.args.at.now c.requires

pub add-k-requires : goal.add-k-requires
add-k-requires c =
    let l = c.loop-j in
    can_add c.args.runs.now c.args.x c.args.y c.args.round c.args.rounds c.args.out.now c.args.c c.args.at.now c.requires
    l.out l.at l.j l.k (omega arith) l.invariant c.share.result c.share.ensures

pub loop-j-preserved : goal.loop-j-preserved
loop-j-preserved c =
    let l = c.loop-j in
    let h = c.share in
    let a = c.add-k in
    feed_next c.args.runs.now c.args.x c.args.y c.args.round c.args.rounds c.args.out.now c.args.c c.args.at.now c.requires
    l.out l.at l.j l.k (omega arith) l.invariant h.result h.ensures a.new.out a.new.at a.result a.auto.out a.ensures

pub shape_of-out : goal.shape_of-out
shape_of-out c = c.loop-j.invariant.whole ∙ sym c.requires.room.whole

pub shape_of-at : goal.shape_of-at
shape_of-at c = c.loop-j.invariant.index.accounts ∙ sym c.requires.room.index.accounts

pub returns : goal.returns
returns c =
    let l = c.loop-j in
    feed_ends c.args.runs.now c.args.x c.args.y c.args.round c.args.rounds c.args.out.now c.args.c c.args.at.now c.requires l.out l.at l.j l.k (omega arith) l.invariant
