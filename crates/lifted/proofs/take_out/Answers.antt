-- The unit's run falls by the unit, by the contracts of `find` and `piece`.
use mathlib.Core.Path.{refl}
use native.Mathlib.Omega.{arith}
use lib.ListN.{length}
use Rattle.lifted.proofs.Lifted.{taken}
use Rattle.lifted.proofs.take_out.Goals as goal

pub returns : goal.returns
returns c =
    let s = c.find-s.result in
    let u = c.find-s.ensures in
    taken c.args.runs.now (length c.args.runs.now) s.run s.passed c.args.k (omega arith) u.below u.within u.place c.piece-word.result _
    c.piece-word.ensures refl
