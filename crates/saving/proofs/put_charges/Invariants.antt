-- The words from i on are still to be stored.
use Rattle.std.proofs.Common.{◌≡◌, ◌+◌, drop, ◌*◌}
use Rattle.std.proofs.lemmas.List.Edits.{sets}
use Rattle.snapshots.specs.Words.{long_words}
use Rattle.saving.proofs.put_charges.Given as goal

abbrev pub invariant-loop-i : goal.invariant-loop-i
invariant-loop-i l = sets l.fn.out l.at (long_words l.column) ≡ sets l.out (l.at + 2 * l.i) (drop (2 * l.i) (long_words l.column))
