use Rattle.removing.proofs.Moving.{moving_more}
use Rattle.removing.proofs.move_up.Goals as goal

pub loop-k-preserved : goal.loop-k-preserved
loop-k-preserved g c = moving_more c.loop-k.invariant c.index-c-s.result c.index-c-s.is c.loop-k-test.true
