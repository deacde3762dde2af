-- A unit is left to put out.
use native.Mathlib.Omega.{arith}
use borrow.Author.Rules.{rules}
use lib.ListN.{length}
use Rattle.inturn.specs.InTurn.{dealt_runs, dealt_from}
use Rattle.inturn.proofs.Dealing.{out_left}
use Rattle.inturn.proofs.deal_out.Goals as goal

pub step-s-requires : goal.step-s-requires
step-s-requires c =
    let l = c.loop-word in
    let rs = c.args.runs.now in
    record {
      ready = c.requires.0;
      seated = l.invariant.0;
      more = out_left l.word-items l.word-index c.args.k (dealt_from rs (length rs) c.args.m l.d) (dealt_runs rs (length rs) c.args.m)
          (search rules) l.invariant.1 (omega (arith, l.auto.word-items, c.requires.1));
    }
