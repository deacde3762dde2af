-- The table has the marks of the issues before i.
use Rattle.std.proofs.Common.{◌≡◌, ◌&&◌, ℕ, false, length, get_or, ltb}
use Rattle.rules.specs.Book.{is_marked}
use Rattle.balancing.proofs.marked.Given as goal

abbrev pub invariant-loop-i : goal.invariant-loop-i
invariant-loop-i l = (length l.marked ≡ 256) × ((j : ℕ) → get_or l.marked j false ≡ ltb j l.i && is_marked l.marks j)
