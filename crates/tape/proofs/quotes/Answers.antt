-- One quote more is stored.
use Rattle.std.proofs.Common.{◌∙◌, arith, length-set}
use Rattle.tape.proofs.QuoteWords.{quotes_next}
use Rattle.tape.proofs.quotes.Goals as goal

pub loop-at-preserved : goal.loop-at-preserved
loop-at-preserved c =
    let l = c.loop-at in (
      length-set l.quotes l.at c.of.result ∙ l.invariant.0,
      quotes_next c.args.tape.now l.quotes l.at _ (omega arith) (omega arith) c.of.ensures ∙ l.invariant.1,
    )
