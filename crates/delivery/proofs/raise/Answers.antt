-- The issue's count is the second word of its block.
use Rattle.std.proofs.Common.{refl}
use Rattle.delivery.proofs.Serving.{raised_count_lem}
use Rattle.delivery.proofs.raise.Goals as goal

pub returns : goal.returns
returns c = (refl, raised_count_lem c.args.lifts.now c.args.i)
