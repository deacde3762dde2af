-- Either the stock ends in this run, which says both numbers, or it covers the run and the walk goes on behind it.
use mathlib.Core.Path.{sym, ◌∙◌}
use native.Mathlib.Omega.{arith}
use borrow.Author.Rules.{rules}
use Rattle.runs.proofs.Words.{covered_past_word, stock_past_word, covered_in_word, stock_in_word}
use Rattle.handover.proofs.handover.Goals as goal

pub returns-then-left-lots : goal.returns-then-left-lots
returns-then-left-lots c =
    let l = c.loop-run in
    let runs = c.args.runs.now in
    record {
      covers = omega (arith, l.invariant.1, covered_in_word runs l.run-index (search rules) l.left (omega arith));
      left = sym (l.invariant.2 ∙ stock_in_word runs l.run-index (search rules) l.left (omega arith));
    }

pub loop-run-preserved : goal.loop-run-preserved
loop-run-preserved c =
    let l = c.loop-run in
    let runs = c.args.runs.now in (
      omega (arith, c.type_inv.runs l.run-index),
      omega (arith, l.invariant.1, covered_past_word runs l.run-index (search rules) l.left (omega arith)),
      l.invariant.2 ∙ stock_past_word runs l.run-index (search rules) l.left (omega arith),
    )
