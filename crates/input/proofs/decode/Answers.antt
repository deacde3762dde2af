-- One word more, and at the end all of them.
use Rattle.std.proofs.Common.{◌≡◌, ◌∙◌, ◌/◌, arith, length, length-set}
use Rattle.rules.specs.Bytes.{words_in}
use Rattle.input.proofs.Bytes.{decode_on, decode_ends}
use Rattle.input.proofs.decode.Goals as goal

pub loop-k-preserved : goal.loop-k-preserved
loop-k-preserved c =
    let a = c.args in
    let l = c.loop-k in (
      length-set l.words l.k c.word.result ∙ l.invariant.0,
      decode_on a.bytes.now l.words (words_in a.bytes.now) l.k c.word.result (omega arith) (omega arith) c.word.ensures l.invariant.1,
    )

pub returns : goal.returns
returns c =
    let a = c.args in
    let l = c.loop-k in
    let n = length a.bytes.now / 4 in
    let e : l.k ≡ n = omega arith in
    record {
      fits = omega arith;
      front = decode_ends a.bytes.now l.words (words_in a.bytes.now) n (omega arith) (rw e at l.invariant.1);
    }
