-- What waits goes on from the runs and the stock that are kept.
use Rattle.std.proofs.Common.{◌≡◌, ◌∙◌, ◌-◌, length}
use borrow.Rule.Slice.PartMut.{mid_len}
use Rattle.waiting.proofs.Waits.{keeps_more, counts_more}
use Rattle.waiting.proofs.more.Goals as goal

pub returns : goal.returns
returns c us d keeps =
    let h = c.hand_on-p in
    let k = c.args.k.now in
    let same : length h.new.runs ≡ k.number - k.first = h.auto.runs ∙ mid_len k.first k.number k.runs c.requires.0.there in (
      keeps_more k h.result h.new.runs c.args.x c.requires.0 same h.ensures us d keeps,
      counts_more k h.result h.new.runs c.args.x c.requires.0 same h.ensures us d keeps,
    )
