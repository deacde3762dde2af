-- Behind the runs up to the last none takes part, in this round or later.
use Rattle.std.proofs.Common.{◌≡◌, ℕ, ◌≤◌, length}
use Rattle.rules.specs.Measures.{unit_lots}
use Rattle.rules.specs.Dealt.{round}
use Rattle.runs.specs.Runs.{runs_in}
use Rattle.inturn.proofs.narrow.Given as goal

abbrev pub invariant-loop-last : goal.invariant-loop-last
invariant-loop-last l = (s : ℕ) → l.r ≤ s → round unit_lots s (runs_in l.runs (length l.runs)) ≡ round unit_lots s (runs_in l.runs l.last)
