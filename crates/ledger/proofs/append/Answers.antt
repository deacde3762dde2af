use Rattle.ledger.proofs.Entries.{held_append}
use Rattle.ledger.proofs.append.Goals as goal

pub returns-clause-done : goal.returns-clause-done
returns-clause-done c = held_append _ _ _ _ _ _ _ _ _ _ _ _ c.requires.0 c.requires.1 c.store.ensures.done
