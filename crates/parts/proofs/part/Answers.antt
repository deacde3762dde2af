-- The words used are the run's.
use Rattle.std.proofs.Common.{refl, arith}
use Rattle.parts.proofs.part.Goals as goal

pub returns : goal.returns
returns c =
    let t = c.run_on-r in
    record {
      used = t.result.used;
      start = omega arith;
      end = refl;
      index = omega arith;
      failed = c.failed.ensures;
      went = rw c.ended-last.ensures at t.ensures;
    }
