-- The unit goes out and in again, by the contracts of `take_out` and `put_in`; at its own place it stays.
use mathlib.Core.List.{◌++◌}
use Prim.Native.Nat.{◌+◌}
use native.Mathlib.Omega.{arith}
use borrow.Author.Rules.{rules}
use lib.ListN.{drop}
use Rattle.runs.specs.Runs.{part_of, units_of_run, units_in}
use Rattle.lifted.proofs.Lifted.{lent_unit, taken_front, out_and_in, out_length, lift_same}
use Rattle.lifted.proofs.lift.Goals as goal

pub returns-then-old-new : goal.returns-then-old-new
returns-then-old-new c = record { few = omega arith; units = lift_same _ _ _ (search rules); plain = λ ps. ps }

pub take_out-word-requires : goal.take_out-word-requires
take_out-word-requires c = lent_unit c.args.runs.now c.args.n c.args.old (omega (arith, c.requires.held)) c.requires.there

pub put_in-requires : goal.put_in-requires
put_in-requires c =
    let a = c.args in
    let o = c.take_out-word in
    let t = taken_front a.runs.now o.new.runs a.n a.old o.result (omega (arith, c.requires.held)) o.auto.runs o.ensures in
    record {
      held = omega (arith, c.requires.held);
      there = omega (arith, c.requires.back, c.requires.there, out_length (units_in a.runs.now a.n) (units_in (o.new.runs ++ drop a.n a.runs.now) a.n) a.old c.requires.there t.rest);
    }

pub returns : goal.returns
returns c =
    let a = c.args in
    let o = c.take_out-word in
    let p = c.put_in in
    let n = a.n in
    let held = o.new.runs ++ drop n a.runs.now in
    let t = taken_front a.runs.now o.new.runs n a.old o.result (omega (arith, c.requires.held)) o.auto.runs o.ensures in
    record {
      few = omega arith;
      units = out_and_in (units_in a.runs.now n) (units_in held n) (units_of_run (part_of o.result)) (units_in p.new.runs (n + 2))
          a.old a.new c.requires.back c.requires.there t.rest t.unit p.ensures.units;
      plain = λ ps. p.ensures.plain t.one (t.plain ps);
    }
