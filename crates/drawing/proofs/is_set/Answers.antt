-- A bit is what a shift leaves lowest.
use Rattle.std.proofs.Common.{ap, eqb}
use Rattle.drawing.proofs.Marks.{bit_shifted}
use Rattle.drawing.proofs.is_set.Goals as goal

pub returns : goal.returns
returns c = ap (λ x. eqb x 1) (bit_shifted c.args.word c.args.b)
