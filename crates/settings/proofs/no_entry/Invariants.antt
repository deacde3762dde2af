-- The flag and the test of what is left are together the test of the whole.
use Rattle.std.proofs.Common.{◌≡◌, ◌&&◌, not, drop, eqb}
use Rattle.rules.specs.Book.{all}
use Rattle.settings.proofs.no_entry.Given as goal

abbrev pub invariant-loop-j : goal.invariant-loop-j
invariant-loop-j l = l.good && all (λ j. not (eqb j l.i)) (drop l.j-index l.issues) ≡ all (λ j. not (eqb j l.i)) l.issues
