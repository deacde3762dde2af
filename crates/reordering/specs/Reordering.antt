-- The same deliveries in another order: lists of deliveries, when one is a rearrangement of another, and what is the same
-- after both.
use Rattle.std.specs.Prelude.{◌≡◌, Bool, true, false, cond, ◌&&◌, List, [], ◌∷◌, ◌++◌, ℕ, eqb}
use Rattle.rules.specs.declared.Book.{Book}
use Rattle.rules.specs.Measures.{Every, Rearranged}
use Rattle.rules.specs.Book.{ledger_of}
use Rattle.rules.specs.Records.{Rec, records_in}
use Rattle.rules.specs.Calls.{Call, Deliver, Cutoff, Answer, called}
use Rattle.rules.specs.Tally.{Tally, accepted as wasAccepted, fed}

-- a delivery: issue, account, lots, and the output lent to it
pub record Delivery : Type 0 where
  pub issue : ℕ
  pub account : ℕ
  pub lots : ℕ
  pub out : List ℕ

abbrev pub deliver : Delivery → Call
deliver d = Deliver d.issue d.account d.lots

-- the same delivery: the same issue, account and lots, and the same words in the output lent to it
abbrev pub same_words : List ℕ → List ℕ → Bool
same_words [] [] = true
same_words [] (v ∷ vs) = false
same_words (w ∷ ws) [] = false
same_words (w ∷ ws) (v ∷ vs) = eqb w v && same_words ws vs

abbrev pub same : Delivery → Delivery → Bool
same c d =
    eqb c.issue d.issue && eqb c.account d.account && eqb c.lots d.lots && same_words c.out d.out

-- Deliveries made one after the other

-- each on the book that the last one returned, with no other call among them: `Gives b c out r` says that the call c on the
-- book b, beside the output out, is answered r
pub data Delivered (Gives : Book → Call → List ℕ → Answer → Type 0) : Book → List Delivery → List Answer → Type 0 where
  none : {b : Book} → Delivered Gives b [] []
  more : {b : Book} {ds : List Delivery} {rs : List Answer} (d : Delivery) (r : Answer) → Gives b (deliver d) d.out r →
      Delivered Gives r.book ds rs → Delivered Gives b (d ∷ ds) (r ∷ rs)

-- as the definitions answer
abbrev pub Answers : Book → Call → List ℕ → Answer → Type 0
Answers b c out r = r ≡ called b c out

abbrev pub answers_to : Book → List Delivery → List Answer
answers_to b [] = []
answers_to b (d ∷ ds) = called b (deliver d) d.out ∷ answers_to (called b (deliver d) d.out).book ds

-- wholly accepted
abbrev pub AllAccepted : List Answer → Type 0
AllAccepted rs = Every (λ r. r.refusal ≡ 0) rs

-- the book after them
abbrev pub book_after : Book → List Answer → Book
book_after b [] = b
book_after b (r ∷ rs) = book_after r.book rs

-- for an issue its calls' handover records, joined in the order of the calls: whole records, as they stand in the words returned
abbrev pub records_from : ℕ → Delivery → Answer → List Rec
records_from i d r = cond (eqb d.issue i) (records_in r.count r.out) []

abbrev pub records_for : ℕ → List Delivery → List Answer → List Rec
records_for i [] rs = []
records_for i (d ∷ ds) [] = []
records_for i (d ∷ ds) (r ∷ rs) = records_from i d r ++ records_for i ds rs

-- the tally after them: fed each call, whether it was accepted, and the records that it wrote
abbrev pub tally_after : Tally → List Delivery → List Answer → Tally
tally_after t [] rs = t
tally_after t (d ∷ ds) [] = t
tally_after t (d ∷ ds) (r ∷ rs) = tally_after (fed (deliver d) (wasAccepted r.refusal) (records_in r.count r.out) t) ds rs

-- What the second of two lists has where the first is wholly accepted

pub record SameOutcome (Gives : Book → Call → List ℕ → Answer → Type 0) (b : Book) (cs ds : List Delivery) (rs qs : List Answer) : Type 0 where
  -- it is wholly accepted too
  pub accepted : AllAccepted qs
  -- for each issue its calls' handover records, joined, are equal
  pub records : (i : ℕ) → records_for i cs rs ≡ records_for i ds qs
  -- the same cutoff straight after leaves equal ledgers
  pub ledgers : (out : List ℕ) (r q : Answer) → Gives (book_after b rs) Cutoff out r → Gives (book_after b qs) Cutoff out q →
      ledger_of r.book ≡ ledger_of q.book
  -- the books are equal in all: lots delivered, and the count of the day's deliveries and lifts, too
  pub books : book_after b rs ≡ book_after b qs
  -- and so are the tallies, with each issue's row of 10s
  pub tallies : (t : Tally) → tally_after t cs rs ≡ tally_after t ds qs

-- F-11: two lists of deliveries from one book, rearrangements of each other, lent outputs included: each delivery as often in
-- the one as in the other; and the first wholly accepted
abbrev pub SameInAnyOrder : (Book → Call → List ℕ → Answer → Type 0) → Book → Type 0
SameInAnyOrder Gives b =
    (cs ds : List Delivery) (rs qs : List Answer) → Rearranged same cs ds → Delivered Gives b cs rs → Delivered Gives b ds qs →
    AllAccepted rs → SameOutcome Gives b cs ds rs qs
