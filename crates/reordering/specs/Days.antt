-- The deliveries of P6 and P7 and the same in the other order; a list with a refused call, of which nothing is claimed; a book with a
-- short column, which no code has; and cases on lists: one list with one proof.
use Rattle.std.specs.Prelude.{refl, true, false, List, [], ◌∷◌, ◌++◌, map, ℕ}
use Rattle.rules.specs.declared.Book.{Book}
use Rattle.rules.specs.Measures.{times}
use Rattle.rules.specs.Units.{account_lots, units}
use Rattle.rules.specs.Handover.{handovers, partials}
use Rattle.rules.specs.Lifts.{lift}
use Rattle.rules.specs.Fails.{lacks, fails}
use Rattle.rules.specs.Book.{delivered_total, count_at, ledger_of, lift_conditions, lifts_sound, cells_even, conditions, sound, order_in, with_delivered, fresh}
use Rattle.rules.specs.Records.{handover, words}
use Rattle.rules.specs.Calls.{Deliver, Cutoff, Answer, called, issue_partials, issue_fails}
use Rattle.rules.specs.Days.{fail, Case, case, Holds}
use Rattle.days.specs.Books.{lent, traded1, traded2, traded3, closed}
use Rattle.reordering.specs.Reordering.{Delivery, same, answers_to, book_after, records_for}

-- x lots of account a in issue i, with this output
abbrev pub of : ℕ → ℕ → ℕ → List ℕ → Delivery
of i a x out = record { issue = i; account = a; lots = x; out = out }

-- Cases on lists

-- a delivery and another with the same numbers and an output of another content, or of another length
abbrev pub same_cases : List Case
same_cases =
    case (same (of 0 5 345000 (7 ∷ 7 ∷ [])) (of 0 5 345000 (7 ∷ 7 ∷ []))) true
    ∷ case (same (of 0 5 345000 (7 ∷ 7 ∷ [])) (of 0 5 345000 (7 ∷ 8 ∷ []))) false
    ∷ case (same (of 0 5 345000 (7 ∷ 7 ∷ [])) (of 0 5 345000 (7 ∷ []))) false
    ∷ case (same (of 0 5 345000 []) (of 1 5 345000 [])) false
    ∷ case (same (of 0 5 345000 []) (of 0 4 345000 [])) false
    ∷ case (same (of 0 5 345000 []) (of 0 5 345001 [])) false
    ∷ []

-- the same delivery made twice is there twice: a list that has it once is no rearrangement
abbrev pub twice : List Delivery
twice = of 0 5 100 [] ∷ of 0 4 100 [] ∷ of 0 5 100 [] ∷ []

abbrev pub times_cases : List Case
times_cases =
    case (times same (of 0 5 100 []) twice) 2
    ∷ case (times same (of 0 4 100 []) twice) 1
    ∷ case (times same (of 0 5 100 (0 ∷ [])) twice) 0
    ∷ []

-- an answer that wrote x lots handed to account a in issue i
abbrev pub handing : ℕ → ℕ → ℕ → Answer
handing i a x = record { refusal = 0; count = 1; cancelled = 0; book = fresh; out = words (handover i (account_lots a x) ∷ []) }

-- two issues by turns: the records of each are its own calls', in their order
abbrev pub joined_cases : List Case
joined_cases =
    case (records_for 0 (of 0 5 10 [] ∷ of 3 5 20 [] ∷ of 0 4 30 [] ∷ []) (handing 0 1 10 ∷ handing 3 2 20 ∷ handing 0 3 30 ∷ []))
    (handover 0 (account_lots 1 10) ∷ handover 0 (account_lots 3 30) ∷ [])
    ∷ case (records_for 3 (of 0 5 10 [] ∷ of 3 5 20 [] ∷ of 0 4 30 [] ∷ []) (handing 0 1 10 ∷ handing 3 2 20 ∷ handing 0 3 30 ∷ []))
    (handover 3 (account_lots 2 20) ∷ [])
    ∷ case (records_for 0 [] []) []
    ∷ []

-- Days

-- P6 and P7, and the same the other way round
abbrev pub first5 : List Delivery
first5 = of 0 5 345000 lent ∷ of 0 4 200000 lent ∷ []

abbrev pub first4 : List Delivery
first4 = of 0 4 200000 lent ∷ of 0 5 345000 lent ∷ []

-- 5 owes 400,000: of these two one is refused
abbrev pub more5 : List Delivery
more5 = of 0 5 345000 lent ∷ of 0 5 100000 lent ∷ []

abbrev pub less5 : List Delivery
less5 = of 0 5 100000 lent ∷ of 0 5 345000 lent ∷ []

-- their numbers, and the book after them
abbrev pub refusals : Book → List Delivery → List ℕ
refusals b ds = map (λ r. r.refusal) (answers_to b ds)

abbrev pub after : Book → List Delivery → Book
after b ds = book_after b (answers_to b ds)

-- to whom an issue's records go
abbrev pub receivers : Book → List Delivery → List ℕ
receivers b ds = map (λ r. r.to) (records_for 0 ds (answers_to b ds))

-- both orders: accepted; 2 2 1 1 3 get 100,000 lots each; two deliveries are counted; and after the cutoff the fails of P8
abbrev pub both_days : List Delivery → List Case
both_days ds =
    case (refusals closed.book ds) (0 ∷ 0 ∷ [])
    ∷ case (records_for 0 ds (answers_to closed.book ds)) (map (λ a. handover 0 (account_lots a 100000)) (2 ∷ 2 ∷ 1 ∷ 1 ∷ 3 ∷ []))
    ∷ case (count_at (after closed.book ds).lifts 0) 2
    ∷ case (ledger_of (called (after closed.book ds) Cutoff lent).book)
    (fail 4 2 5000 ∷ fail 4 3 25000 ∷ fail 5 3 25000 ∷ fail 5 1 30000 ∷ [])
    ∷ []

-- whichever comes first is done, and the other refused 9: the claim is silent, and the books differ
abbrev pub refused_days : List Case
refused_days =
    case (refusals closed.book more5) (0 ∷ 9 ∷ [])
    ∷ case (refusals closed.book less5) (0 ∷ 9 ∷ [])
    ∷ case (delivered_total (after closed.book more5).delivered 0) 345000
    ∷ case (delivered_total (after closed.book less5).delivered 0) 100000
    ∷ []

-- a book of the definitions may have a column shorter than a book's, and then the claim is false: after 4 has delivered 100,000 a column
-- that ends with account 4 takes no delivery of 5, which is accepted and not stored, so that the next one hands over the same units
-- again. No code has such a book
abbrev pub short_book : Book
short_book = with_delivered (called closed.book (Deliver 0 4 100000) lent).book (0 ∷ 0 ∷ 0 ∷ 0 ∷ 100000 ∷ [])

abbrev pub short_days : List Case
short_days =
    case (receivers short_book (of 0 4 100000 lent ∷ of 0 5 200000 lent ∷ [])) (2 ∷ 1 ∷ 1 ∷ [])
    ∷ case (receivers short_book (of 0 5 200000 lent ∷ of 0 4 100000 lent ∷ [])) (2 ∷ 1 ∷ 2 ∷ [])
    ∷ []

unfoldable pub order_days : List Case
order_days = same_cases ++ times_cases ++ joined_cases ++ both_days first5 ++ both_days first4 ++ refused_days ++ short_days

-- each by computing what the definitions give
pub held : Holds order_days
unfolding order_days units handovers partials lacks fails lift_conditions lifts_sound cells_even conditions sound lift order_in issue_partials issue_fails called traded1 traded2 traded3 closed
held =
    (refl, (refl, (refl, (refl, (refl, (refl, (refl, (refl, (refl, (refl, (refl, (refl, (refl, (refl, (refl, (refl, (refl, (refl, (refl, (refl, (refl, (refl, (refl, (refl, (refl, (refl, tt))))))))))))))))))))))))))
