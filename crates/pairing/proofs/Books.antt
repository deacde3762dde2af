-- A sound book can be paired off.
use mathlib.Core.Path.{◌≡◌}
use mathlib.Core.Bool.{true}
use Prim.Native.Nat.{ℕ}
use native.Mathlib.Omega.{arith}
use borrow.Author.Tests.{leb-true}
use Rattle.rules.specs.declared.Book.{Book}
use Rattle.rules.specs.Book.{sound}
use Rattle.rules.specs.Questions.{first_no}
use Rattle.rules.specs.Calls.{pair_off_asks}
use Rattle.laws.proofs.Answers.{all_yes}
use Rattle.ledger.specs.Columns.{Whole}
use Rattle.ledger.proofs.Books.{book_held, book_entries}
use Rattle.stepping.specs.Steps.{Pairable}

pub book_pairable : (b : Book) → sound b ≡ true → Whole b.issues b.froms b.tos b.lots b.days → (i a : ℕ) →
    first_no (pair_off_asks i a) ≡ 0 → Pairable b.state.entries i b.issues b.froms b.tos b.lots b.days
book_pairable b s w i a q =
    record {
      held = book_held b s w;
      sound = book_entries b s;
      issue = omega (arith, leb-true i 15 (all_yes (pair_off_asks i a) (omega arith) q).0);
    }
