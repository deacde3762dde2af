-- Each product is at most that of the limits, so it fits; how large both parts are together is a law.
use Prim.Native.Nat.{◌≤◌}
use native.Mathlib.Nat.{mul-le-mul}
use native.Mathlib.Omega.{arith}
use Rattle.rules.specs.Measures.{most_price, value_of}
use Rattle.laws.proofs.Charges.{value_most}
use Rattle.measures.proofs.value_of.Goals as goal

pub overflow_mul-lots : goal.overflow_mul-lots
overflow_mul-lots c =
    let h : c.args.price ≤ most_price = omega (arith, c.requires.price) in
    omega (arith, mul-le-mul c.requires.lots h)

pub overflow_mul-lots-2 : goal.overflow_mul-lots-2
overflow_mul-lots-2 c =
    let h : c.args.accrued ≤ most_price = omega (arith, c.requires.price) in
    omega (arith, mul-le-mul c.requires.lots h)

pub overflow_add-result : goal.overflow_add-result
unfolding value_of
overflow_add-result c = omega (arith, c.halved.ensures, c.halved-2.ensures, value_most _ _ _ c.requires.lots c.requires.price)

pub returns : goal.returns
unfolding value_of
returns c =
    record {
      exact = rw (c.halved.ensures, c.halved-2.ensures);
      most = omega (arith, c.halved.ensures, c.halved-2.ensures, value_most _ _ _ c.requires.lots c.requires.price);
    }
