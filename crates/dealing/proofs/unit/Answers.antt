-- The issue is ranked; where there is a unit k, it is dealt out into one word.
use mathlib.Core.Path.{refl}
use native.Mathlib.Omega.{arith}
use Rattle.dealing.proofs.Dealer.{none_found, one_there, one_found}
use Rattle.dealing.proofs.unit.Goals as goal

pub returns-then-number-k : goal.returns-then-number-k
returns-then-number-k c =
    let f = c.rank-p in
    none_found c.args.nets.now c.args.lifts.now c.args.i c.args.k c.requires f.new.keys f.result f.ensures
    (omega (arith, c.number.ensures))

pub units_from-requires : goal.units_from-requires
units_from-requires c =
    let f = c.rank-p in
    one_there c.args.nets.now c.args.lifts.now c.args.i c.args.k c.requires f.new.keys f.result f.ensures _ refl
    (omega (arith, c.number.ensures))

pub returns : goal.returns
returns c =
    let f = c.rank-p in
    let u = c.units_from in
    one_found c.args.nets.now c.args.lifts.now c.args.i c.args.k c.requires f.new.keys f.result f.ensures
    u.new.out u.auto.out (omega (arith, c.number.ensures)) u.ensures
