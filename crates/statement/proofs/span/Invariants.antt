-- The book in its columns is sound; with what the turns from here on add, the statement is the span's. No instruction has more than thirty-three words.
use Rattle.std.proofs.Common.{◌≡◌, ◌+◌, ◌-◌, ◌*◌, ◌≤◌, length, drop}
use Rattle.columns.specs.Books.{lent_book, IsReady, SameColumns}
use Rattle.statement.proofs.Counted.{Counting}
use Rattle.statement.proofs.span.Given as goal

abbrev pub invariant-loop-turn : goal.invariant-loop-turn
invariant-loop-turn l =
    IsReady l.state l.columns l.out
    × (l.at ≤ length l.words)
    × (l.at + 33 * (4096 - l._turn) ≤ 135168)
    × Counting l.issue l.account (lent_book l.fn.s l.fn.columns) l.words (4096 - l._turn) l.c (lent_book l.state l.columns) (drop l.at l.words)
    × (length l.out ≡ length l.fn.out)
    × SameColumns l.fn.columns l.columns
