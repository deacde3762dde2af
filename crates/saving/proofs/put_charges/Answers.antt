-- The two words of a charge more, and none left.
use Rattle.std.proofs.Common.{◌∙◌, ap, arith, get_or, pos, ◌*◌}
use mir.Syntax.{w64}
use mir.ValLaws.{to_z-of_z}
use borrow.Author.Rules.{rules}
use lib.Seq.{sets}
use Rattle.snapshots.specs.Words.{low_word, high_word, long_words}
use Rattle.snapshots.proofs.Words.{longs_length}
use Rattle.saving.proofs.Loops.{longs_more, put_end}
use Rattle.saving.proofs.put_charges.Goals as goal

pub loop-i-preserved : goal.loop-i-preserved
loop-i-preserved c =
    let b = to_z-of_z w64 (get_or c.args.column.now c.loop-i.i (pos 0)) (search rules) in
    longs_more c.args.column.now (sets c.args.out.now c.args.at (long_words c.args.column.now)) c.loop-i.out c.args.at c.loop-i.i _ _
    (omega arith) (c.low_word.ensures ∙ ap low_word b) (c.high_word.ensures ∙ ap high_word b) c.loop-i.invariant

pub returns : goal.returns
returns c =
    put_end (long_words c.args.column.now) _ c.loop-i.out c.args.at (2 * c.loop-i.i) (omega (arith, longs_length c.args.column.now)) c.loop-i.invariant
