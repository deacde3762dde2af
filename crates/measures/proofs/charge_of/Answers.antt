-- The quotient of products within the limits is at most the largest charge.
use Rattle.std.proofs.Common.{arith, mul-le-mul}
use Rattle.rules.specs.Measures.{charge_of}
use Rattle.measures.proofs.charge_of.Goals as goal

pub returns : goal.returns
unfolding charge_of
returns c =
    record {
      exact = rw c.value_of.ensures.exact;
      most = omega (arith, mul-le-mul (mul-le-mul c.value_of.ensures.most c.requires.1.rate) c.requires.1.days);
    }
