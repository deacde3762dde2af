-- The lines behind the run are of its own book.
use Rattle.dayrun.proofs.Closing.{whole}
use Rattle.dayrun.proofs.day.Goals as goal

pub returns : goal.returns
returns g c = whole c.play-run.result c.close-closing.result c.play-run.ensures.0 c.close-closing.ensures
