-- The trades up to here are passed, and the book in its columns is sound.
use Rattle.std.proofs.Common.{◌≡◌, length, ◌-◌}
use Rattle.columns.specs.Books.{lent_book, IsSound, SameColumns}
use Rattle.batch.specs.Batch.{within, PassedBeside}
use Rattle.batch.proofs.trades.Given as goal

abbrev pub invariant-loop-s : goal.invariant-loop-s
invariant-loop-s l =
    within l.words l.answers l.p
    × (l.p.written ≡ l.fn.from.written)
    × (length l.answers ≡ length l.initial.answers)
    × IsSound l.s l.columns
    × PassedBeside l.words (lent_book l.s l.initial.columns) (lent_book l.s l.columns) l.initial.answers l.answers l.room l.fn.from l.p
    × SameColumns l.initial.columns l.columns

abbrev pub decreases-loop-s : goal.decreases-loop-s
decreases-loop-s l = length l.words - l.p.used
