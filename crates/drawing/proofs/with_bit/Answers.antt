-- A bit that is not set leaves room for its power.
use Rattle.std.proofs.Common.{◌+◌, ap}
use Rattle.drawing.proofs.Marks.{one_shifted, bit_room}
use Rattle.drawing.proofs.with_bit.Goals as goal

pub overflow_add-result : goal.overflow_add-result
overflow_add-result c =
    let a = c.args in
    record { fits = rw (one_shifted a.b c.requires.0) (bit_room 64 a.word a.b c.ranges.word.fits c.requires.0 c.requires.1) }

pub returns : goal.returns
returns c = ap (λ x. c.args.word + x) (one_shifted c.args.b c.requires.0)
