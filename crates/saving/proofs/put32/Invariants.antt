-- The words from i on are still to be stored.
use Rattle.std.proofs.Common.{◌≡◌, ◌+◌, drop}
use Rattle.std.proofs.lemmas.List.Edits.{sets}
use Rattle.saving.proofs.put32.Given as goal

abbrev pub invariant-loop-i : goal.invariant-loop-i
invariant-loop-i l = sets l.fn.out l.at l.column ≡ sets l.out (l.at + l.i) (drop l.i l.column)
