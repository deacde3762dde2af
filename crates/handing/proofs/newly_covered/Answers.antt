-- More lots cover no fewer units.
use native.Mathlib.Omega.{arith}
use Rattle.laws.proofs.Handover.{covered_grows}
use Rattle.runs.specs.Runs.{units_of_words}
use Rattle.handing.proofs.newly_covered.Goals as goal

pub overflow_sub-result : goal.overflow_sub-result
overflow_sub-result c =
    let a = c.args in
    omega (arith, c.handover-after.ensures.covers, c.handover-before.ensures.covers, covered_grows (units_of_words a.runs.now) a.d a.x)
