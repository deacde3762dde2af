-- A number more, and none left.
use Rattle.std.proofs.Common.{◌∙◌, ◌≤◌, ap, sym, map, length, arith}
use lib.Seq.{take_all}
use Rattle.restoring.proofs.Words.{fill_any}
use Rattle.restoring.proofs.take.Goals as goal

pub loop-i-preserved : goal.loop-i-preserved
loop-i-preserved g c =
    rw c.of.ensures
    (fill_any (g.P.Part.number c.args.part) 0 c.args.words.now c.loop-i.column c.loop-i.i (omega arith) (omega arith) c.loop-i.invariant)

pub returns : goal.returns
returns g c =
    let e : length c.loop-i.column ≤ c.loop-i.i = omega arith in
    let f : length c.args.words.now ≤ c.loop-i.i = omega arith in
    sym (take_all c.loop-i.i c.loop-i.column e) ∙ c.loop-i.invariant
    ∙ ap (map (g.P.Part.number c.args.part)) (take_all c.loop-i.i c.args.words.now f)
