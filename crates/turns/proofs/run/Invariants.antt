-- The book in its columns is sound, and they stay the same; the text so far, and the run from here, are the run of the words.
use mathlib.Core.Path.{◌≡◌}
use Prim.Native.Nat.{◌-◌}
use lib.ListN.{length}
use Rattle.columns.specs.Books.{lent_book, IsReady, SameColumns}
use Rattle.passing.specs.Going.{Going}
use Rattle.turns.proofs.run.Given as goal

abbrev pub invariant-loop-found : goal.invariant-loop-found
invariant-loop-found l =
    let i = l.initial in
    IsReady l.state l.columns l.out
    × (length l.out ≡ length i.out)
    × (length l.text ≡ length i.text)
    × (length l.kept ≡ length i.kept)
    × Going l.words l.last l.stray l.index (lent_book i.state i.columns) (lent_book l.state l.columns) l.text l.at l.end
    × SameColumns i.columns l.columns

abbrev pub decreases-loop-found : goal.decreases-loop-found
decreases-loop-found l = length l.words - l.at
