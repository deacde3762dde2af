-- Zeros from `at` on are zeros from the start on.
use Rattle.std.proofs.Common.{◌≡◌, ◌-◌, length, replicate}
use Rattle.std.proofs.lemmas.List.Edits.{sets}
use Rattle.journal.proofs.noting.clear.Given as goal

abbrev pub invariant-loop-at : goal.invariant-loop-at
invariant-loop-at l =
    (length l.out ≡ length l.fn.out) × (sets l.out l.at (replicate (34 - l.at) 0) ≡ sets l.fn.out l.fn.from (replicate (34 - l.fn.from) 0))
