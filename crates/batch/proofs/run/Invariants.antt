-- The book in its columns is sound; what is done so far, and what is answered from here on, are what is answered of all words.
use Rattle.std.proofs.Common.{◌≡◌, length, ◌-◌}
use Rattle.columns.specs.Books.{lent_book, IsSound, SameColumns}
use Rattle.batch.specs.Batch.{Running}
use Rattle.batch.proofs.run.Given as goal

abbrev pub invariant-loop-stand : goal.invariant-loop-stand
invariant-loop-stand l =
    IsSound l.state l.columns
    × Running (lent_book l.fn.s l.fn.columns) l.words l.fn.answers l.fn.out l.stand (lent_book l.state l.columns) l.answers l.out
    × (length l.answers ≡ length l.fn.answers)
    × (length l.out ≡ length l.fn.out)
    × (length l.kept ≡ 16)
    × SameColumns l.fn.columns l.columns

abbrev pub decreases-loop-stand : goal.decreases-loop-stand
decreases-loop-stand l = length l.words - l.stand.used
