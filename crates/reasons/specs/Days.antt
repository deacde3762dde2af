-- What is told of units of whole books: the settled days P6 to P8, days with lifts, with refused calls between and with calls after the
-- cutoff, as one list with one proof.
use Rattle.std.specs.Prelude.{refl, true, false, List, [], ◌∷◌, ◌++◌, ℕ, length}
use Rattle.rules.specs.declared.Book.{Book}
use Rattle.rules.specs.Units.{account_lots, units}
use Rattle.rules.specs.Handover.{handovers, partials}
use Rattle.rules.specs.Lifts.{lift}
use Rattle.rules.specs.Fails.{lacks, fails}
use Rattle.rules.specs.Ledger.{pairing}
use Rattle.rules.specs.Book.{lift_conditions, lifts_sound, cells_even, conditions, sound, order_in}
use Rattle.rules.specs.Questions.{quotes_right}
use Rattle.rules.specs.Calls.{Deliver, Commit, Cutoff, Resolve, PairOff, Roll, Mark, Turn, Answer, ticket_for, called, issue_partials, issue_fails}
use Rattle.rules.specs.Tally.{CallList, in_issue}
use Rattle.rules.specs.Days.{Case, case, Holds}
use Rattle.days.specs.Books.{lent, beside_lent, traded1, traded2, traded3, closed, delivered1, delivered2, cut, ticket7, committed7, tallied}
use Rattle.told.specs.Status.{is_handed, waits_for, fails_partly, fails_wholly, status_refused, in_settling, after_cutoff, status}
use Rattle.reasons.specs.Lists.{after, no_lift_between, brought, no_roll_since, lacking}

-- P6: three units, stock 45,000; unit 3 waits for 55,000 lots
abbrev pub settling_days : List Case
settling_days =
    case (status delivered1.book 0 2) is_handed
    ∷ case (status delivered1.book 0 3) (waits_for 55000)
    ∷ []

-- P8: unit 5 partly failed 5,000, unit 6 wholly; of account 3 50,000 are lacking, as many as were failed to it
abbrev pub cut_days : List Case
cut_days =
    case (status cut.book 0 5) (fails_partly 5000)
    ∷ case (status cut.book 0 6) fails_wholly
    ∷ case (lacking cut.book 0 3) 50000
    ∷ []

-- after P7 unit 7 (account 1, 30,000 lots) is lifted and handed: the units behind it move back, and so does the stock of 15,000
unfoldable pub lifted_cut : Answer
lifted_cut = called committed7.book Cutoff lent

abbrev pub lift_days : List Case
lift_days =
    case (status delivered2.book 0 7) (waits_for 85000)
    ∷ case (status committed7.book 0 5) is_handed
    ∷ case (status committed7.book 0 6) (waits_for 35000)
    ∷ case (status lifted_cut.book 0 6) (fails_partly 35000)
    ∷ case (status lifted_cut.book 0 7) fails_wholly
    ∷ []

-- after P6 a commit with an old ticket (its count was 0) and a cutoff without an output are refused, 17 and 1; the new order is named for
-- day 2; then 4 delivers x lots
abbrev pub refused_then : ℕ → CallList
refused_then x = (Commit (ticket_for 0 3 (account_lots 1 100000) 0 0), lent) ∷ (Cutoff, []) ∷ (Turn 2, []) ∷ (Deliver 0 4 x, lent) ∷ []

abbrev pub between_days : List Case
between_days =
    -- no lift between: unit 3 waited for 55,000 lots
    case (no_lift_between 0 delivered1.book (refused_then 55000)) true
    ∷ case (brought 0 delivered1.book (refused_then 55000)) 55000
    ∷ case (status (after delivered1.book (refused_then 55000)) 0 3) is_handed
    ∷ case (status (after delivered1.book (refused_then 54999)) 0 3) (waits_for 1)
    -- an accepted commit is a lift of its own issue; an accepted cutoff may not stand between for any issue
    ∷ case (no_lift_between 0 delivered2.book (beside_lent (Commit ticket7 ∷ []))) false
    ∷ case (no_lift_between 1 delivered2.book (beside_lent (Commit ticket7 ∷ []))) true
    ∷ case (no_lift_between 1 delivered2.book (beside_lent (Cutoff ∷ []))) false
    ∷ []

-- after P7 the row of issue 0 has five 10s: units 0 to 4 are handed, and unit 5 waits
abbrev pub row_days : List Case
row_days =
    case (length (tallied.tally.rows 0)) 5
    ∷ case (status tallied.book 0 4) is_handed
    ∷ case (status tallied.book 0 5) (waits_for 5000)
    ∷ []

-- after P8 a delivery and a roll without prices are refused; 4 resolves 6,000 lots, so that the fail to account 2 is met; 3 is paired off,
-- issue 5 is marked and the new order is named for the next day: unit 5 lacked 5,000 at the cutoff
abbrev pub later : CallList
later = beside_lent (Deliver 0 4 1 ∷ Roll 1 300 [] ∷ Resolve 0 4 6000 ∷ PairOff 0 3 ∷ Mark 5 1 ∷ Turn 1 ∷ [])

abbrev pub later_days : List Case
later_days =
    case (no_roll_since cut.book later) true
    ∷ case (status (after cut.book later) 0 5) (fails_partly 5000)
    ∷ []

-- Taking is refused by phase, a missing unit by 16
abbrev pub refused_days : List Case
refused_days =
    case (status traded3.book 0 0) (status_refused 3)
    ∷ case (status delivered1.book 16 0) (status_refused 4)
    ∷ case (status delivered1.book 0 8) (status_refused 16)
    ∷ []

unfoldable pub reason_days : List Case
reason_days = settling_days ++ cut_days ++ lift_days ++ between_days ++ row_days ++ later_days ++ refused_days

-- each by computing what the definitions give
pub reasons_told : Holds reason_days
unfolding reason_days units handovers partials lacks fails pairing quotes_right lift_conditions lifts_sound cells_even conditions sound lift order_in issue_partials issue_fails called in_issue traded1 traded2 traded3 closed delivered1 delivered2 cut committed7 tallied lifted_cut in_settling after_cutoff status lacking
reasons_told =
    (refl, (refl, (refl, (refl, (refl, (refl, (refl, (refl, (refl, (refl, (refl, (refl, (refl, (refl, (refl, (refl, (refl, (refl, (refl, (refl, (refl, (refl, (refl, (refl, (refl, tt)))))))))))))))))))))))))
