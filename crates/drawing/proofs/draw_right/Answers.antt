-- So all are once, or one is twice.
use Rattle.std.proofs.Common.{sym, ◌∙◌, arith}
use Rattle.reports.proofs.Draws.{other_length, not_below, drawn_twice, each_once}
use Rattle.drawing.proofs.Marks.{window_more}
use Rattle.drawing.proofs.draw_right.Goals as goal

pub returns-then-draw-n : goal.returns-then-draw-n
returns-then-draw-n c = let a = c.args in other_length a.n a.draw.now c.if-draw-n.true

pub returns-then-not-below : goal.returns-then-not-below
returns-then-not-below c = not_below c.args.n c.args.draw.now (sym c.below.ensures ∙ c.if-not-below.true)

pub loop-k-init : goal.loop-k-init
loop-k-init c = λ m h. absurd (omega arith)

pub returns-then-not-window_right : goal.returns-then-not-window_right
returns-then-not-window_right c = drawn_twice c.args.n c.args.draw.now (c.window_right.ensures.some c.if-not-window_right.true)

pub loop-k-preserved : goal.loop-k-preserved
loop-k-preserved c =
    let w = c.window_right in
    window_more c.loop-k.k c.args.draw.now w.result c.loop-k.invariant w.ensures c.if-not-window_right.false

pub returns : goal.returns
returns c =
    let a = c.args in
    each_once a.n a.draw.now c.if-draw-n.false (sym c.below.ensures ∙ c.if-not-below.false)
    (λ m h. c.loop-k.invariant m (omega arith))
