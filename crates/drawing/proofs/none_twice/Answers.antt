-- A number of the list more.
use Rattle.std.proofs.Common.{rules, length, arith}
use Rattle.drawing.proofs.Marks.{passed_none, passed_more, passed_twice, passed_all}
use Rattle.drawing.proofs.none_twice.Goals as goal

pub loop-j-init : goal.loop-j-init
loop-j-init c = (search rules, passed_none c.args.w (length c.args.marks.now) c.args.draw.now c.args.marks.now c.requires)

pub returns-then-not-mark : goal.returns-then-not-mark
returns-then-not-mark c =
    let l = c.loop-j in
    let m = c.mark in
    passed_twice c.args.w (length c.args.marks.now) c.args.draw.now l.j-index (omega arith) l.marks m.new.marks m.result
    l.invariant.0 m.ensures l.invariant.1 c.if-not-mark.true

pub loop-j-preserved : goal.loop-j-preserved
loop-j-preserved c =
    let l = c.loop-j in
    let m = c.mark in (
      omega (arith, m.ensures.places, l.invariant.0),
      passed_more c.args.w (length c.args.marks.now) c.args.draw.now l.j-index (omega arith) l.marks m.new.marks m.result
          l.invariant.0 m.ensures l.invariant.1 c.if-not-mark.false,
    )

pub returns : goal.returns
returns c =
    let l = c.loop-j in
    passed_all c.args.w (length c.args.marks.now) c.args.draw.now l.j-index l.marks (omega arith) l.invariant.1
