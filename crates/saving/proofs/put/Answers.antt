-- A word more.
use Rattle.std.proofs.Common.{◌∙◌, map, arith}
use lib.ListN.{length-map}
use lib.Seq.{sets}
use Rattle.saving.proofs.Loops.{put_more, map_at}
use Rattle.saving.proofs.put.Goals as goal

pub loop-i-preserved : goal.loop-i-preserved
loop-i-preserved g c =
    let ws = map g.N.Word.word c.args.column.now in
    put_more ws (sets c.args.out.now c.args.at ws) c.loop-i.out c.args.at c.loop-i.i _
    (omega (arith, length-map c.args.column.now g.N.Word.word))
    (c.word.ensures ∙ map_at g.N.Word.word c.index-column-i.result c.args.column.now c.loop-i.i (omega arith) c.index-column-i.is)
    c.loop-i.invariant
