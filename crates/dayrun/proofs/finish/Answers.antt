-- The lines are the book's, and stand within the text.
use Rattle.std.proofs.Common.{arith, length, ◌≤◌}
use lib.Seq.{length-take-le}
use Rattle.dayrun.proofs.Closing.{closing_shown}
use Rattle.dayrun.proofs.finish.Goals as goal

pub show-requires : goal.show-requires
show-requires g c =
    let t = c.closing-length in
    let fits : t.result ≤ length t.new.text = omega (arith, t.ensures.few, t.auto.text, c.requires.0) in (
      c.requires.3,
      closing_shown c.args.e _ c.requires.1 c.requires.2 t.ensures.front,
      omega (arith, length-take-le t.result t.new.text fits, t.ensures.few, c.requires.1.few),
    )
