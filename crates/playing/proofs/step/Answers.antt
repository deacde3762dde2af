-- What is filled is read, and the part that it is leaves the run as it has to stand.
use Rattle.std.proofs.Common.{arith}
use Rattle.playing.specs.Playing.{Stepped}
use Rattle.playing.proofs.Sofar.{standing_on}
use Rattle.playing.proofs.step.Goals as goal

pub returns : goal.returns
returns g c =
    let b = c.requires.0 in
    let n = c.next-w in
    let t = c.part in
    let d : Stepped c.args.p c.args.bytes.now n.new.buffer t.new.text t.result = record { words = n.new.words; read = n.result; fed = n.ensures; parted = t.ensures } in (
      d,
      standing_on c.args.p t.result _ _ _ d (omega (arith, n.auto.buffer, b.input)) c.requires.2 c.requires.1,
      record {
        input = omega (arith, n.auto.buffer, b.input);
        tape = omega (arith, n.auto.words, b.tape);
        lines = omega (arith, t.auto.text, b.lines);
        output = omega (arith, t.auto.out, b.output);
        issues = omega (arith, t.auto.kept, b.issues);
      },
    )
