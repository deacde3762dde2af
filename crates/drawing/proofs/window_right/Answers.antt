-- No number has a mark at first.
use Rattle.drawing.proofs.Marks.{unmarked}
use Rattle.drawing.proofs.window_right.Goals as goal

pub none_twice-requires : goal.none_twice-requires
none_twice-requires c = unmarked 1024

pub returns : goal.returns
returns c = c.none_twice.ensures
