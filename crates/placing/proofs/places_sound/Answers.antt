-- A lift more.
use Rattle.std.proofs.Common.{arith, get_or}
use Rattle.placing.proofs.LiftLaws.{places_turn}
use Rattle.placing.proofs.places_sound.Goals as goal

pub loop-k-preserved : goal.loop-k-preserved
loop-k-preserved c =
    places_turn c.args.words.now c.args.number c.args.handed c.loop-k.least (get_or c.args.words.now 0 0) c.loop-k.k c.loop-k.good _
    (omega arith) c.loop-k.invariant
