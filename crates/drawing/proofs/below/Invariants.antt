-- The flag and the test of what is left are together the test of the whole.
use Rattle.std.proofs.Common.{◌≡◌, ◌&&◌, drop, ltb}
use Rattle.rules.specs.Book.{all}
use Rattle.drawing.proofs.below.Given as goal

abbrev pub invariant-loop-x : goal.invariant-loop-x
invariant-loop-x l = l.good && all (λ x. ltb x l.limit) (drop l.x-index l.column) ≡ all (λ x. ltb x l.limit) l.column
