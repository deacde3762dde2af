-- The span is fed, and the units that were lifted away from it are taken off.
use lib.ListN.{length}
use Rattle.stretching.proofs.Taking.{pending_span, pending_take, pending_fed}
use Rattle.stretching.proofs.feed_pending.Goals as goal

pub feed_span-r-requires : goal.feed_span-r-requires
feed_span-r-requires c =
    pending_span c.args.runs.now (length c.args.runs.now) c.args.m c.args.out.now c.args.c c.args.at.now c.args.gaps.now c.args.p c.requires

pub take_all-requires : goal.take_all-requires
take_all-requires c =
    let f = c.feed_span-r in
    pending_take c.args.runs.now (length c.args.runs.now) c.args.m c.args.out.now c.args.c c.args.at.now c.args.gaps.now c.args.p c.requires f.new.out f.new.at f.result f.auto.out f.ensures

pub returns : goal.returns
returns c =
    let f = c.feed_span-r in
    let t = c.take_all in
    pending_fed c.args.runs.now (length c.args.runs.now) c.args.m c.args.out.now c.args.c c.args.at.now c.args.gaps.now c.args.p c.requires f.new.out f.new.at f.result f.auto.out f.ensures t.new.out t.ensures
