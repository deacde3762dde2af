-- The sums begin at 0.
use mathlib.Core.Path.{refl}
use Rattle.gathering.proofs.Gathers.{zeros}
use Rattle.gathering.proofs.gather.Goals as goal

pub sums-requires : goal.sums-requires
sums-requires c = record { accounts = refl; none = zeros 64; ready = c.requires }
