use Prim.Native.Nat.{◌*◌}
use Rattle.words.proofs.Stores.{part_put}
use Rattle.meeting.proofs.Recording.{recorded_none, recorded_some}
use Rattle.meeting.proofs.hand.Goals as goal

-- nothing is written at 0 lots, else the record, in the part behind the others
pub returns-then-x-eq0 : goal.returns-then-x-eq0
returns-then-x-eq0 c = recorded_none _ _ _ _ c.if-x-eq0.true

pub returns : goal.returns
returns c =
    let a = c.args in
    recorded_some a.e a.x a.n a.out.now _ c.if-x-eq0.false
    (part_put a.out.now c.«record».new.part (2 * a.n) _ _ c.requires.0
    (rw (c.from.ensures, c.from-2.ensures, c.from-3.ensures) at c.«record».ensures))
