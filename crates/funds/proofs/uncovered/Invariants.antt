-- What is left, less the bases from here on, is the funds less all bases.
use Rattle.std.proofs.Common.{◌≡◌, ◌-◌, drop}
use Rattle.rules.specs.Measures.{sum}
use Rattle.funds.proofs.uncovered.Given as goal

abbrev pub invariant-loop-base : goal.invariant-loop-base
invariant-loop-base l = l.left - sum (drop l.base-index l.bases) ≡ l.funds - sum l.bases
