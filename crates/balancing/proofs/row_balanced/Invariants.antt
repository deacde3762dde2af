-- The sum so far and the nets that are left are in balance as all are; no sum of 64 nets in bounds wraps.
use Rattle.rules.specs.Measures.{most_lots}
use Rattle.balancing.proofs.RowLaws.{Summed}
use Rattle.balancing.proofs.row_balanced.Given as goal

abbrev pub invariant-loop-n : goal.invariant-loop-n
invariant-loop-n l = Summed most_lots l.net l.n-index l.sum
