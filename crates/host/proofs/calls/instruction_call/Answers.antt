-- What the call gave, in plain numbers.
use Rattle.host.proofs.calls.instruction_call.Goals as goal

pub returns-in-Ok-clause-called : goal.returns-in-Ok-clause-called
returns-in-Ok-clause-called c = rw c.turned.ensures (rw c.in-Ok.is at c.made.ensures.done)

pub returns-in-Err-clause-called : goal.returns-in-Err-clause-called
returns-in-Err-clause-called c = rw (c.refused.ensures, c.number.ensures) (rw c.in-Err.is at c.made.ensures.done)
