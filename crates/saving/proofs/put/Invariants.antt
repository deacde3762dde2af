-- The words from i on are still to be stored.
use Rattle.std.proofs.Common.{◌≡◌, ◌+◌, drop, map}
use Rattle.std.proofs.lemmas.List.Edits.{sets}
use Rattle.saving.proofs.put.Given as goal

abbrev pub invariant-loop-i : goal.invariant-loop-i
invariant-loop-i g l =
    sets l.fn.out l.at (map g.N.Word.word l.column) ≡ sets l.out (l.at + l.i) (drop l.i (map g.N.Word.word l.column))
