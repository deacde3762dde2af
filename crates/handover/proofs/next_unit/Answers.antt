-- Either the unit is in this run, or it is behind it.
use mathlib.Core.Path.{◌∙◌}
use native.Mathlib.Omega.{arith}
use borrow.Author.Rules.{rules}
use Rattle.handover.specs.Walking.{units_from}
use Rattle.runs.proofs.Words.{past_word, in_word}
use Rattle.handover.proofs.next_unit.Goals as goal

pub returns-then-passed-count : goal.returns-then-passed-count
unfolding units_from
returns-then-passed-count c =
    let l = c.loop-run in
    record {
      list = l.invariant ∙ in_word c.args.runs.now l.run (search rules) l.passed c.min.result (omega arith) (omega (arith, c.min.ensures));
      range = (omega arith, omega (arith, c.min.ensures));
    }

pub loop-run-preserved : goal.loop-run-preserved
loop-run-preserved c =
    let l = c.loop-run in
    l.invariant ∙ past_word c.args.runs.now l.run (search rules) l.passed (omega arith)
