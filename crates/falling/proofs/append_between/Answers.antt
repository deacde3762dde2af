use Rattle.falling.proofs.Falling.{kept_none}
use Rattle.falling.proofs.append_between.Goals as goal

pub returns-then-e-clause-done : goal.returns-then-e-clause-done
returns-then-e-clause-done c =
    let e = c.args.e in
    kept_none e.day e.issue e.from e.to e.lots _ _ _ _ _ _ c.if-e.true c.requires.1
