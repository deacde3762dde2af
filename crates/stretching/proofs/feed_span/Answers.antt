-- By cases: small units, a part of a round, or the rest of a round, whole rounds, and what is behind them.
use Prim.Native.Nat.{◌<◌}
use native.Mathlib.Omega.{arith}
use lib.ListN.{length}
use Rattle.stretching.proofs.Spans.{feed_small, fed_small, feed_part, fed_part, next_round, feed_rest, feed_whole, feed_last_small, fed_last_small, feed_last_part, fed_last_part}
use Rattle.stretching.proofs.feed_span.Goals as goal

pub feed-requires : goal.feed-requires
feed-requires c =
    let d = c.seat-d in
    feed_small c.args.runs.now (length c.args.runs.now) c.args.m c.args.base c.args.len c.args.out.now c.args.c c.args.at.now c.requires d.result d.ensures.2 (omega arith)

pub returns-then-w-eq0 : goal.returns-then-w-eq0
returns-then-w-eq0 c =
    let d = c.seat-d in
    let f = c.feed in
    fed_small c.args.runs.now (length c.args.runs.now) c.args.m c.args.base c.args.len c.args.out.now c.args.c c.args.at.now c.requires d.result d.ensures.2 (omega arith)
    f.new.out f.new.at f.result f.ensures

pub feed-requires-then-x-w : goal.feed-requires-then-x-w
feed-requires-then-x-w c =
    let d = c.seat-d in
    feed_part c.args.runs.now (length c.args.runs.now) c.args.m c.args.base c.args.len c.args.out.now c.args.c c.args.at.now c.requires d.result d.ensures.2 (omega arith)
    (omega (arith, d.ensures.1.within (omega arith)))

pub returns-then-x-w : goal.returns-then-x-w
returns-then-x-w c =
    let d = c.seat-d in
    let f = c.feed-then-x-w in
    fed_part c.args.runs.now (length c.args.runs.now) c.args.m c.args.base c.args.len c.args.out.now c.args.c c.args.at.now c.requires d.result d.ensures.2 (omega arith)
    (omega (arith, d.ensures.1.within (omega arith))) f.new.out f.new.at f.result f.ensures

pub feed-a-requires : goal.feed-a-requires
feed-a-requires c =
    let d = c.seat-d in
    let o : 0 < d.result.wide = omega (arith, c.if-w-eq0.false) in
    let h = c.if-x-w.false in
    let g = c.seat-g in
    feed_rest c.args.runs.now (length c.args.runs.now) c.args.m c.args.base c.args.len c.args.out.now c.args.c c.args.at.now c.requires d.result d.ensures.2
    g.result g.ensures.2 g.ensures.1.within (d.ensures.1.within o) (omega (arith, d.ensures.1.within o, h))

pub overflow_sub-q : goal.overflow_sub-q
overflow_sub-q c =
    let d = c.seat-d in
    let o : 0 < d.result.wide = omega (arith, c.if-w-eq0.false) in
    let h = c.if-x-w.false in
    let g = c.seat-g in
    omega (
      arith,
      next_round c.args.runs.now (length c.args.runs.now) c.args.m c.args.base c.args.len c.args.out.now c.args.c c.args.at.now c.requires d.result d.ensures.2
          g.result g.ensures.2 g.ensures.1.within (d.ensures.1.within o) (omega (arith, d.ensures.1.within o, h)),
    )

pub overflow_sub-q-2 : goal.overflow_sub-q-2
overflow_sub-q-2 c =
    let d = c.seat-d in
    let o : 0 < d.result.wide = omega (arith, c.if-w-eq0.false) in
    let h = c.if-x-w.false in
    let g = c.seat-g in
    omega (
      arith,
      next_round c.args.runs.now (length c.args.runs.now) c.args.m c.args.base c.args.len c.args.out.now c.args.c c.args.at.now c.requires d.result d.ensures.2
          g.result g.ensures.2 g.ensures.1.within (d.ensures.1.within o) (omega (arith, d.ensures.1.within o, h)),
    )

pub feed-b-requires : goal.feed-b-requires
feed-b-requires c =
    let d = c.seat-d in
    let o : 0 < d.result.wide = omega (arith, c.if-w-eq0.false) in
    let h = c.if-x-w.false in
    let g = c.seat-g in
    let a = c.feed-a in
    feed_whole c.args.runs.now (length c.args.runs.now) c.args.m c.args.base c.args.len c.args.out.now c.args.c c.args.at.now c.requires d.result d.ensures.2
    g.result g.ensures.2 g.ensures.1.within (d.ensures.1.within o) (omega (arith, d.ensures.1.within o, h))
    a.new.out a.new.at a.result a.auto.out a.ensures

pub feed-requires-then-g-eq0 : goal.feed-requires-then-g-eq0
feed-requires-then-g-eq0 c =
    let d = c.seat-d in
    let o : 0 < d.result.wide = omega (arith, c.if-w-eq0.false) in
    let h = c.if-x-w.false in
    let g = c.seat-g in
    let a = c.feed-a in
    let b = c.feed-b in
    feed_last_small c.args.runs.now (length c.args.runs.now) c.args.m c.args.base c.args.len c.args.out.now c.args.c c.args.at.now c.requires d.result d.ensures.2
    g.result g.ensures.2 g.ensures.1.within (d.ensures.1.within o) (omega (arith, d.ensures.1.within o, h))
    a.new.out a.new.at a.result a.auto.out a.ensures b.new.out b.new.at b.result b.auto.out b.ensures (omega arith)

pub returns-then-g-eq0 : goal.returns-then-g-eq0
returns-then-g-eq0 c =
    let d = c.seat-d in
    let o : 0 < d.result.wide = omega (arith, c.if-w-eq0.false) in
    let h = c.if-x-w.false in
    let g = c.seat-g in
    let a = c.feed-a in
    let b = c.feed-b in
    let f = c.feed-then-g-eq0 in
    fed_last_small c.args.runs.now (length c.args.runs.now) c.args.m c.args.base c.args.len c.args.out.now c.args.c c.args.at.now c.requires d.result d.ensures.2
    g.result g.ensures.2 g.ensures.1.within (d.ensures.1.within o) (omega (arith, d.ensures.1.within o, h))
    a.new.out a.new.at a.result a.auto.out a.ensures b.new.out b.new.at b.result b.auto.out b.ensures (omega (arith, c.if-g-eq0.true))
    f.new.out f.new.at f.result f.ensures

pub feed-requires-2 : goal.feed-requires-2
feed-requires-2 c =
    let d = c.seat-d in
    let o : 0 < d.result.wide = omega (arith, c.if-w-eq0.false) in
    let h = c.if-x-w.false in
    let g = c.seat-g in
    let a = c.feed-a in
    let b = c.feed-b in
    feed_last_part c.args.runs.now (length c.args.runs.now) c.args.m c.args.base c.args.len c.args.out.now c.args.c c.args.at.now c.requires d.result d.ensures.2
    g.result g.ensures.2 g.ensures.1.within (d.ensures.1.within o) (omega (arith, d.ensures.1.within o, h))
    a.new.out a.new.at a.result a.auto.out a.ensures b.new.out b.new.at b.result b.auto.out b.ensures (omega arith)

pub returns : goal.returns
returns c =
    let d = c.seat-d in
    let o : 0 < d.result.wide = omega (arith, c.if-w-eq0.false) in
    let h = c.if-x-w.false in
    let g = c.seat-g in
    let a = c.feed-a in
    let b = c.feed-b in
    let f = c.feed-2 in
    fed_last_part c.args.runs.now (length c.args.runs.now) c.args.m c.args.base c.args.len c.args.out.now c.args.c c.args.at.now c.requires d.result d.ensures.2
    g.result g.ensures.2 g.ensures.1.within (d.ensures.1.within o) (omega (arith, d.ensures.1.within o, h))
    a.new.out a.new.at a.result a.auto.out a.ensures b.new.out b.new.at b.result b.auto.out b.ensures (omega (arith, c.if-g-eq0.false))
    f.new.out f.new.at f.result f.ensures
