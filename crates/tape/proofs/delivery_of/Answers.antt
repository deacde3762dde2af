-- Both words are right, so they are read as a delivery.
use Rattle.tape.proofs.Found.{read_deliver}
use Rattle.tape.proofs.delivery_of.Goals as goal

pub returns : goal.returns
returns c =
    rw (c.of.ensures, c.of-2.ensures, c.of-3.ensures)
    (read_deliver c.args.ws.now _ _ c.in_ok-head.ensures)
