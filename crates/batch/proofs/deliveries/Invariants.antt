-- The deliveries up to here are passed, the book in its columns is sound, and what is kept is right.
use Rattle.std.proofs.Common.{◌≡◌, length, ◌-◌, ◌≤◌}
use Rattle.columns.specs.Books.{lent_book, IsSound, SameColumns}
use Rattle.delivery.specs.Deliver.{KeepsEach}
use Rattle.batch.specs.Batch.{within, Passed}
use Rattle.batch.proofs.deliveries.Given as goal

abbrev pub invariant-loop-s : goal.invariant-loop-s
invariant-loop-s l =
    within l.words l.answers l.p
    × (l.p.written ≤ length l.out)
    × (length l.answers ≡ length l.initial.answers)
    × (length l.out ≡ length l.initial.out)
    × IsSound l.s l.columns
    × KeepsEach l.columns.nets.now l.columns.delivered.now l.columns.lifts.now l.kept
    × Passed l.words (lent_book l.s l.initial.columns) (lent_book l.s l.columns) l.initial.answers l.answers l.initial.out l.out l.fn.from l.p
    × SameColumns l.initial.columns l.columns

abbrev pub decreases-loop-s : goal.decreases-loop-s
decreases-loop-s l = length l.words - l.p.used
