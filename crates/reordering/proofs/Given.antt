-- Of what runs: whatever answers calls as the definitions do has the same outcome for the same deliveries in another order.
use mathlib.Core.Path.{◌≡◌, refl, sym, ap, subst}
use mathlib.Core.List.{List, []}
use Prim.Native.Nat.{ℕ}
use native.Mathlib.Omega.{arith}
use lib.ListN.{length}
use Rattle.rules.specs.declared.Book.{Book}
use Rattle.rules.specs.Book.{ledger_of}
use Rattle.rules.specs.Calls.{Call, Cutoff, Answer, called}
use Rattle.laws.proofs.Called.{Sizes}
use Rattle.reordering.specs.Reordering.{Delivery, deliver, Delivered, none, more, Answers, book_after, SameOutcome, SameInAnyOrder}
use Rattle.reordering.proofs.Same.{none_same}
use Rattle.reordering.proofs.Theorem.{same_in_any_order}

-- `Gives b c out r`: it gave r for the call c on the book b, beside the output out. On a good book that is the definitions'
-- answer, a delivery leaves a good book good, and on any book the same call leaves the same book
module _ (Gives : Book → Call → List ℕ → Answer → Type 0) (Good : Book → Type 0)
    (right : (b : Book) (c : Call) (out : List ℕ) (r : Answer) → Good b → Gives b c out r → r ≡ called b c out)
    (keeps : (b : Book) (d : Delivery) → Good b → Good (called b (deliver d) d.out).book)
    (one : (b : Book) (c : Call) (out : List ℕ) (r q : Answer) → Gives b c out r → Gives b c out q → r.book ≡ q.book) where
  as_answered : {b : Book} {ds : List Delivery} {rs : List Answer} → Good b → Delivered Gives b ds rs → Delivered Answers b ds rs
  as_answered k none = none
  as_answered k (more {b} {ds} {rs} d r g p) =
      let e = right b (deliver d) d.out r k g in
      more d r e (as_answered (subst (λ a. Good a.book) (sym e) (keeps b d k)) p)

  one_ledger : (b b' : Book) → b ≡ b' → (c : Call) (out : List ℕ) (r q : Answer) → Gives b c out r → Gives b' c out q → ledger_of r.book ≡ ledger_of q.book
  one_ledger b b' e c out r q g l = ap ledger_of (one b' c out r q (subst (λ x. Gives x c out r) e g) l)

  -- from a good book with a book's columns
  pub same_given : (b : Book) → Good b → Sizes b → SameInAnyOrder Gives b
  same_given b k z cs ds rs qs m p q h =
      let o = same_in_any_order b z cs ds rs qs m (as_answered k p) (as_answered k q) h in
      record {
        accepted = o.accepted;
        records = o.records;
        ledgers = λ out r s g l. one_ledger (book_after b rs) (book_after b qs) o.books Cutoff out r s g l;
        books = o.books;
        tallies = o.tallies;
      }

  -- from any book, where an accepted delivery says that its book is good and has a book's columns
  module _ (brings : (b : Book) (d : Delivery) (r : Answer) → Gives b (deliver d) d.out r → r.refusal ≡ 0 → Good b)
      (sized : (b : Book) → Good b → Sizes b) where
    nothing : {b : Book} {ds : List Delivery} {qs : List Answer} → Delivered Gives b ds qs → [] ≡ ds → SameOutcome Gives b [] ds [] qs
    nothing (none {b}) e =
        record {
          accepted = tt;
          records = λ i. refl;
          ledgers = λ out r s g l. one_ledger b b refl Cutoff out r s g l;
          books = refl;
          tallies = λ t. refl;
        }
    nothing (more d r g p) e = absurd (let n = ap length e in omega arith)

    pub same_from_any : (b : Book) → SameInAnyOrder Gives b
    same_from_any b _ ds _ qs m none q h = nothing q (none_same ds m)
    same_from_any b _ ds _ qs m (more d r g p) q h =
        let k = brings b d r g h.0 in same_given b k (sized b k) _ ds _ qs m (more d r g p) q h
