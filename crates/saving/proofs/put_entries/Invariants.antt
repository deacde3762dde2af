-- The words from i on are still to be stored.
use Rattle.std.proofs.Common.{◌≡◌, ◌+◌, drop}
use Rattle.std.proofs.lemmas.List.Edits.{sets}
use Rattle.snapshots.specs.Words.{entry_words}
use Rattle.saving.proofs.put_entries.Given as goal

abbrev pub invariant-loop-i : goal.invariant-loop-i
invariant-loop-i l = sets l.fn.out l.at (entry_words l.issues l.froms l.tos l.days) ≡ sets l.out (l.at + l.i) (drop l.i (entry_words l.issues l.froms l.tos l.days))
