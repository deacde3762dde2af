-- The entries' lines, and the charges' behind them.
use Rattle.std.proofs.Common.{rules}
use Rattle.rules.specs.Text.{closing_text}
use Rattle.report.proofs.Texts.{added_then}
use Rattle.report.proofs.closing.Goals as goal

pub returns : goal.returns
unfolding closing_text
returns c = added_then _ _ 222016 _ _ _ _ _ _ _ _ (search rules) c.fails-at.ensures c.charges.ensures
