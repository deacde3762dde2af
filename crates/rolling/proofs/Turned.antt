-- What a roll does to a book.
use mathlib.Core.Path.{◌≡◌, refl}
use mathlib.Core.List.{List}
use Prim.Native.Nat.{ℕ}
use lib.ListN.{replicate}
use lib.IntN.{ℤ, pos}
use Rattle.rules.specs.declared.Book.{Book}
use Rattle.rules.specs.declared.State.{State}
use Rattle.rules.specs.Ledger.{charged}
use Rattle.rules.specs.Book.{book_of, entries, next_day}
use Rattle.rules.specs.Calls.{Roll, effect}
use Rattle.answers.proofs.Turning.{Does}

pub rolled : (b : Book) (days rate : ℕ) (quotes : List ℕ) (s : State) (nets : List ℤ) (delivered lifts : List ℕ) (charges : List ℤ) (out : List ℕ) →
    s ≡ next_day b.state → nets ≡ replicate 1024 (pos 0) → delivered ≡ replicate 1024 0 → lifts ≡ replicate 288 0 →
    charges ≡ charged days rate quotes (entries b.state.entries b.issues b.froms b.tos b.lots b.days) b.charges →
    Does (effect b (Roll days rate quotes)) out 0 0 (book_of s nets delivered lifts charges b.issues b.froms b.tos b.lots b.days) out
rolled b days rate quotes s nets delivered lifts charges out e n d l c =
    record { count = refl; cancelled = refl; book = rw (e, n, d, l, c); written = refl }
