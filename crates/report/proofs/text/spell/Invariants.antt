-- The digits to come, and those that stand, are all of the number's.
use Rattle.std.proofs.Common.{◌≡◌, length}
use Rattle.report.proofs.Spelled.{Spelling}
use Rattle.report.proofs.text.spell.Given as goal

abbrev pub invariant-loop-k : goal.invariant-loop-k
invariant-loop-k l = (length l.text ≡ length l.fn.text) × Spelling l.fn.text l.text l.at l.k l.end l.n l.rest

abbrev pub decreases-loop-k : goal.decreases-loop-k
decreases-loop-k l = l.k
