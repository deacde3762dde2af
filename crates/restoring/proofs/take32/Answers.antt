-- A word more, and none left.
use Rattle.std.proofs.Common.{◌∙◌, ◌≤◌, sym, length, arith}
use lib.Seq.{take_all}
use Rattle.restoring.proofs.Words.{fill_same}
use Rattle.restoring.proofs.take32.Goals as goal

pub loop-i-preserved : goal.loop-i-preserved
loop-i-preserved c = fill_same c.args.words.now c.loop-i.column c.loop-i.i (omega arith) (omega arith) c.loop-i.invariant

pub returns : goal.returns
returns c =
    let e : length c.loop-i.column ≤ c.loop-i.i = omega arith in
    let f : length c.args.words.now ≤ c.loop-i.i = omega arith in
    sym (take_all c.loop-i.i c.loop-i.column e) ∙ c.loop-i.invariant ∙ take_all c.loop-i.i c.args.words.now f
