-- A charge more, and none left.
use Rattle.std.proofs.Common.{◌≡◌, ◌∙◌, ◌+◌, ◌*◌, ◌≤◌, ap, sym, length, arith, get_or}
use borrow.Author.Rules.{rules}
use mir.Syntax.{w64}
use mir.Val.{to_z, of_z}
use mir.ValLaws.{to_z-of_z}
use lib.Seq.{take_all}
use Rattle.snapshots.specs.Words.{long_in, longs_in}
use Rattle.restoring.proofs.Words.{longs_fill}
use Rattle.restoring.proofs.take_charges.Goals as goal

pub loop-i-preserved : goal.loop-i-preserved
loop-i-preserved c =
    let r : to_z w64 (of_z w64 c.long_in.result) ≡ long_in (get_or c.args.words.now (2 * c.loop-i.i) 0) (get_or c.args.words.now (2 * c.loop-i.i + 1) 0) =
    to_z-of_z w64 c.long_in.result (search rules) ∙ c.long_in.ensures in
    rw r (longs_fill c.args.words.now c.loop-i.column c.loop-i.i (omega arith) (omega arith) c.loop-i.invariant)

pub returns : goal.returns
returns c =
    let e : length c.loop-i.column ≤ c.loop-i.i = omega arith in
    let f : length c.args.words.now ≤ 2 * c.loop-i.i = omega arith in
    sym (take_all c.loop-i.i c.loop-i.column e) ∙ c.loop-i.invariant ∙ ap longs_in (take_all (2 * c.loop-i.i) c.args.words.now f)
