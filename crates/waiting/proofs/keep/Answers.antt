-- What the delivered lots cover is taken off the units in their order.
use Rattle.std.proofs.Common.{◌∙◌}
use lib.Seq.{length-take-le}
use Rattle.runs.specs.Runs.{units_in}
use Rattle.waiting.proofs.Waits.{kept_first}
use Rattle.waiting.proofs.keep.Goals as goal

pub returns : goal.returns
unfolding units_in
returns c =
    let p = c.prepare-number in
    let h = c.hand_on-p in
    kept_first _ _ _ _ c.args.d h.result p.ensures.units p.ensures.held.few p.ensures.held.there
    (h.auto.runs ∙ length-take-le p.result p.new.runs p.ensures.held.there) h.ensures
