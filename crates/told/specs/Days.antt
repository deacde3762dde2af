-- What is told of the units of P5, and of a book in Cut, as one list with one proof. Days on whole books, through the calls, are in `reasons`.
use Rattle.std.specs.Prelude.{refl, List, [], ◌∷◌, ◌++◌, ℕ, replicate, pos, negsuc}
use Rattle.rules.specs.declared.Book.{Book}
use Rattle.rules.specs.declared.Phase.TheVariants.{Taking, Settling, Cut}
use Rattle.rules.specs.Units.{units}
use Rattle.rules.specs.Book.{lift_conditions, lifts_sound, cells_even, conditions, sound, order_in, with_phase, with_state, with_nets, with_delivered, with_ledger, fresh}
use Rattle.rules.specs.Questions.{first_no}
use Rattle.rules.specs.Days.{fail, units_p5, Case, case, Holds}
use Rattle.told.specs.Status.{is_handed, waits_for, fails_partly, fails_wholly, in_settling, after_cutoff, reason, status_asks, status}

-- P6: of 345,000 lots 45,000 are stock: unit 3 waits for 55,000, and unit 4 for 100,000 more
abbrev pub settling_cases : List Case
settling_cases =
    case (reason Settling units_p5 345000 2) is_handed
    ∷ case (reason Settling units_p5 345000 3) (waits_for 55000)
    ∷ case (reason Settling units_p5 345000 4) (waits_for 155000)
    ∷ []

-- P8: of 545,000 lots 45,000 go to unit 5; with 500,000 nothing of it comes
abbrev pub cut_cases : List Case
cut_cases =
    case (reason Cut units_p5 545000 4) is_handed
    ∷ case (reason Cut units_p5 545000 5) (fails_partly 5000)
    ∷ case (reason Cut units_p5 545000 6) fails_wholly
    ∷ case (reason Cut units_p5 500000 5) fails_wholly
    ∷ []

-- the first 'no': Taking before the issue, that before a missing unit
abbrev pub refused_cases : List Case
refused_cases =
    case (first_no (status_asks Taking (λ i. units_p5) 16 8)) 3
    ∷ case (first_no (status_asks Settling (λ i. units_p5) 16 8)) 4
    ∷ case (first_no (status_asks Cut (λ i. units_p5) 15 8)) 16
    ∷ case (first_no (status_asks Cut (λ i. units_p5) 15 7)) 0
    ∷ []

-- the book of P8 after a resolve that met the fail 4→2 and part of 4→3
unfoldable pub resolved_book : Book
resolved_book =
    with_ledger
    (with_delivered
    (with_nets (with_state fresh (with_phase fresh.state Cut)) (pos 0 ∷ pos 230000 ∷ pos 250000 ∷ pos 150000 ∷ negsuc 229999 ∷ negsuc 399999 ∷ replicate 1018 (pos 0)))
    (0 ∷ 0 ∷ 0 ∷ 0 ∷ 200000 ∷ 345000 ∷ replicate 1018 0))
    (fail 4 3 24000 ∷ fail 5 3 25000 ∷ fail 5 1 30000 ∷ [])

-- later resolves are not counted: unit 5 lacked 5,000
abbrev pub book_cases : List Case
book_cases = case (status resolved_book 0 5) (fails_partly 5000) ∷ []

unfoldable pub status_days : List Case
status_days = settling_cases ++ cut_cases ++ refused_cases ++ book_cases

-- each by computing what the definitions give
pub told : Holds status_days
unfolding status_days resolved_book units lift_conditions lifts_sound cells_even conditions sound order_in in_settling after_cutoff status
told = (refl, (refl, (refl, (refl, (refl, (refl, (refl, (refl, (refl, (refl, (refl, (refl, tt))))))))))))
