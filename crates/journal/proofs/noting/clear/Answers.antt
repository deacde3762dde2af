-- One zero more is stored.
use Rattle.std.proofs.Common.{◌∙◌, length-set}
use Rattle.journal.proofs.Laid.{zero_more}
use Rattle.journal.proofs.noting.clear.Goals as goal

pub loop-at-preserved : goal.loop-at-preserved
loop-at-preserved c =
    let l = c.loop-at in
    (length-set l.out l.at 0 ∙ l.invariant.0, zero_more l.out l.at 34 c.loop-at-test.true ∙ l.invariant.1)
