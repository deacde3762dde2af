use mathlib.Core.Path.{ap, sym, ◌∙◌}
use native.Mathlib.Omega.{arith}
use lib.ListN.{length}
use Rattle.cutting.proofs.Issues.{few, no_fails}
use Rattle.cutting.proofs.count_issue.Goals as goal

pub settled-requires : goal.settled-requires
settled-requires c = (record { nets = c.requires.0.cells; delivered = c.requires.0.both }, c.requires.1)

pub returns-then-settled : goal.returns-then-settled
returns-then-settled c =
    let a = c.args in
    let e = sym c.settled.ensures ∙ c.if-settled.true in
    sym (ap length (no_fails a.dealt a.nets.now a.delivered.now a.lifts.now a.i c.requires.1 c.requires.0 e))

pub count-requires : goal.count-requires
count-requires c =
    let a = c.args in
    let y = c.prepare_for-p.ensures in (
      y.advance.shortfalls,
      y.range,
      omega (arith, ap length y.fails, few a.dealt a.nets.now a.delivered.now a.lifts.now a.i c.requires.1 c.requires.0),
    )

pub returns : goal.returns
returns c = c.count.ensures ∙ ap length c.prepare_for-p.ensures.fails
