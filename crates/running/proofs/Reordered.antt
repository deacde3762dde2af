-- The same deliveries in another order, made in place through `answer`: the same outcome.
use mathlib.Core.Path.{◌≡◌, sym, ap, ◌∙◌}
use mathlib.Core.List.{List}
use Prim.Native.Nat.{ℕ}
use Rattle.rules.specs.declared.Book.{Book}
use Rattle.rules.specs.Calls.{Call, Answer, called}
use Rattle.rules.specs.Tally.{Tallied}
use Rattle.laws.proofs.Called.{Sizes}
use Rattle.tally.proofs.Made.{Made, as_called, made_reached}
use Rattle.reordering.specs.Reordering.{SameInAnyOrder}
use Rattle.reordering.proofs.Given.{same_given}
use Rattle.running.proofs.Fed.{gave_answer, InPlace, turned}

answers : (b : Book) (c : Call) (out : List ℕ) (r : Answer) → InPlace b c out r → r ≡ called b c out
answers b _ _ _ (turned x quotes out r b' out' g) = gave_answer g

-- from a book with a book's columns
pub same_in_place : (b : Book) → Sizes b → SameInAnyOrder InPlace b
same_in_place b z =
    same_given InPlace (λ c. Unit {0}) (λ c x o r k g. answers c x o r g) (λ c d k. tt)
    (λ c x o r q g l. ap (λ a. a.book) (answers c x o r g ∙ sym (answers c x o q l))) b tt z

-- and so from every book that a list of instructions made through it leads to
pub same_made_in_place : {s : Tallied} → Made InPlace s → SameInAnyOrder InPlace s.book
same_made_in_place {s} m =
    let l = (made_reached InPlace (λ b c out r g. as_called (answers b c out r g)) m).lengths in
    same_in_place s.book (record { nets = l.cells.nets; delivered = l.cells.delivered; lifts = l.lifts; charges = l.charges })
