-- No entry P to Q behind the others.
use mathlib.Core.Path.{◌≡◌, sym}
use mathlib.Core.List.{List, ◌++◌, append-nil}
use Prim.Native.Nat.{ℕ}
use borrow.Author.Tests.{eq-eqb}
use Rattle.rules.specs.Ledger.{appended}
use Rattle.rules.specs.Book.{entries}
use Rattle.ledger.specs.Columns.{Held, Kept}
use Rattle.ledger.proofs.Entries.{entries_length}

-- nothing is appended where P is Q
pub kept_none : (today i p q m n : ℕ) (is fs ts xs ds : List ℕ) → p ≡ q → Held n is fs ts xs ds →
    Kept (entries n is fs ts xs ds ++ appended today i p q m) n is fs ts xs ds
kept_none today i p q m n is fs ts xs ds e held =
    rw (eq-eqb p q e, append-nil (entries n is fs ts xs ds))
    (record { count = sym (entries_length n is fs ts xs ds); columns = held.columns })
