-- By where the places lie: in front of the new place, at it, up to the old one, or behind.
use mathlib.Core.Path.{◌∙◌}
use Prim.Native.Nat.{◌+◌}
use native.Mathlib.Omega.{arith}
use Rattle.unlifting.proofs.Places.{back_front, back_new, back_between, back_behind}
use Rattle.unlifting.proofs.before_lift.Goals as goal

pub returns-then-s-new : goal.returns-then-s-new
returns-then-s-new c =
    let a = c.args in
    record {
      one = omega (arith, c.min-x.ensures);
      fewer = omega (arith, c.min-x.ensures);
      places = λ t h. back_front a.old a.new (a.s.base + t) (omega (arith, c.min-x.ensures));
    }

pub returns-then-s-new-2 : goal.returns-then-s-new-2
returns-then-s-new-2 c =
    let a = c.args in
    record {
      one = omega arith;
      fewer = omega arith;
      places = λ t h. back_new a.old a.new (a.s.base + t) (omega arith) ∙ omega arith;
    }

pub returns-then-s-old : goal.returns-then-s-old
returns-then-s-old c =
    let a = c.args in
    record {
      one = omega (arith, c.min-x-then-s-old.ensures);
      fewer = omega (arith, c.min-x-then-s-old.ensures);
      places = λ t h. back_between a.old a.new (a.s.base + t) (omega arith) (omega (arith, c.min-x-then-s-old.ensures)) ∙ omega arith;
    }

pub returns : goal.returns
returns c =
    let a = c.args in
    record {
      one = omega arith;
      fewer = omega arith;
      places = λ t h. back_behind a.old a.new (a.s.base + t) (omega arith) (omega arith);
    }
