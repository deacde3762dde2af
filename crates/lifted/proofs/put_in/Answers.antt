-- The run of unit k is split and the word goes between, by the contracts of `find` and `shift`.
use native.Mathlib.Omega.{arith}
use mathlib.Core.Path.{refl}
use Rattle.lifted.proofs.Lifted.{lent_unit, lent_at, put}
use Rattle.lifted.proofs.put_in.Goals as goal

pub find-s-requires : goal.find-s-requires
find-s-requires c =
    lent_unit c.args.runs.now c.args.n c.args.k (omega (arith, c.requires.held)) c.requires.there

pub returns : goal.returns
returns c =
    let s = c.find-s.result in
    let h = c.shift in
    let t = c.shift-2 in
    let u = lent_at c.args.runs.now c.args.n c.args.k s (omega (arith, c.requires.held)) c.find-s.ensures in
    put c.args.runs.now c.args.n s.run s.passed c.args.k (omega (arith, c.requires.held)) u.below u.within u.place c.args.word _ _
    h.new.keys t.new.keys (omega (arith, c.requires.held)) refl refl h.ensures t.ensures
