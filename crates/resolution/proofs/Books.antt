-- A sound book can be resolved.
use mathlib.Core.Path.{◌≡◌}
use mathlib.Core.Bool.{true}
use mathlib.Core.List.{List}
use Prim.Native.Nat.{ℕ, ◌≤◌}
use lib.ListN.{length}
use Rattle.rules.specs.declared.Book.{Book}
use Rattle.rules.specs.Measures.{output_words}
use Rattle.rules.specs.Book.{sound}
use Rattle.ledger.specs.Columns.{Whole}
use Rattle.ledger.proofs.Books.{book_held, book_entries}
use Rattle.resolution.specs.Resolving.{Resolvable}

pub book_resolvable : (b : Book) → sound b ≡ true → Whole b.issues b.froms b.tos b.lots b.days → (out : List ℕ) →
    output_words ≤ length out → Resolvable b.state.entries b.issues b.froms b.tos b.lots b.days out
book_resolvable b s w out h = record { held = book_held b s w; sound = book_entries b s; room = h }
