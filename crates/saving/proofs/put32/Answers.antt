-- A word more, and none left.
use Rattle.std.proofs.Common.{refl, arith}
use lib.Seq.{sets}
use Rattle.checksums.proofs.Bounds.{all_words}
use Rattle.saving.proofs.Loops.{put_more, put_end}
use Rattle.saving.proofs.put32.Goals as goal

pub loop-i-preserved : goal.loop-i-preserved
loop-i-preserved c =
    let xs = c.args.column.now in
    put_more xs (sets c.args.out.now c.args.at xs) c.loop-i.out c.args.at c.loop-i.i _ (omega arith) refl c.loop-i.invariant

pub returns : goal.returns
returns c =
    let xs = c.args.column.now in
    record {
      stored = put_end xs (sets c.args.out.now c.args.at xs) c.loop-i.out c.args.at c.loop-i.i (omega arith) c.loop-i.invariant;
      words = all_words xs (λ k. omega (arith, c.type_inv.column k));
    }
