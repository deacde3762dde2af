-- Both words are right, so they are read as a trade.
use Rattle.tape.proofs.Found.{read_trade}
use Rattle.tape.proofs.trade_of.Goals as goal

pub returns : goal.returns
returns c =
    rw (c.of.ensures, c.of-2.ensures, c.of-3.ensures, c.of-4.ensures)
    (read_trade c.args.ws.now _ _ c.in_ok-head.ensures)
