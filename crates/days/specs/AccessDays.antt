-- The settled days P5 to P9 with their callers, on whole books; cases on lists are in `rules` (AccessCases). Account 5 is
-- participant 0's, accounts 2 and 3 are participant 1's; account 4's owner number is 16, which names nobody.
use Rattle.std.specs.Prelude.{refl, List, [], ◌∷◌, ◌++◌, ℕ, pos, negsuc}
use Rattle.rules.specs.declared.Book.{Book}
use Rattle.rules.specs.Measures.{value_of, charge_of}
use Rattle.rules.specs.Units.{units}
use Rattle.rules.specs.Handover.{handovers, partials}
use Rattle.rules.specs.Lifts.{lift}
use Rattle.rules.specs.Fails.{lacks, fails}
use Rattle.rules.specs.Ledger.{entry}
use Rattle.rules.specs.Book.{lift_conditions, lifts_sound, cells_even, conditions, sound, order_in}
use Rattle.rules.specs.Questions.{quotes_right}
use Rattle.rules.specs.Calls.{Call, Trade, Close, Deliver, Commit, Cutoff, PairOff, Roll, Mark, Turn, no_ticket, unit_refused, called, issue_partials, issue_fails}
use Rattle.rules.specs.Access.{called_by, asked_by, unit_by, seen, none_seen, look_refused, look}
use Rattle.rules.specs.Days.{Case, case, Holds, both_hold}
use Rattle.rules.specs.AccessCases.{by}
use Rattle.days.specs.Books.{lent, ticket7, traded1, traded2, traded3, closed, delivered1, delivered2, cut, rolled1}
use Rattle.days.specs.Days.{numbers}

-- the number that a caller is told
abbrev pub told_by : ℕ → Book → Call → List ℕ → ℕ
told_by n b c out = (called_by (by n) b c out).refusal

-- P6 with the caller
abbrev pub delivery_days : List Case
delivery_days =
    -- its own account, as the operator would make it: number, count and records
    case (numbers 7 (called_by (by 0) closed.book (Deliver 0 5 345000) lent))
    (0 ∷ 3 ∷ 0xa0002000 ∷ 0x800186a0 ∷ 0xa0002000 ∷ 0x800186a0 ∷ 0xa0001000 ∷ 0x800186a0 ∷ 7 ∷ [])
    -- more than it owes, and lots out of range
    ∷ case (told_by 0 closed.book (Deliver 0 5 400001) lent ∷ told_by 0 closed.book (Deliver 0 5 0) lent ∷ []) (9 ∷ 7 ∷ [])
    -- another's and nobody's: whatever the lots
    ∷ case (told_by 0 closed.book (Deliver 0 2 1) lent ∷ told_by 0 closed.book (Deliver 0 4 0) lent ∷ told_by 1 closed.book (Deliver 0 5 345000) lent ∷ [])
    (27 ∷ 27 ∷ 27 ∷ [])
    -- what is asked before 27
    ∷ case
    (told_by 0 closed.book (Deliver 0 4 1) [] ∷ told_by 0 cut.book (Deliver 0 4 1) lent ∷ told_by 0 closed.book (Deliver 16 4 1) lent
    ∷ told_by 0 closed.book (Deliver 0 64 1) lent ∷ [])
    (1 ∷ 3 ∷ 4 ∷ 5 ∷ [])
    -- 17 has no right to anything, and of the operator no account is asked
    ∷ case (told_by 17 closed.book (Deliver 0 4 1) lent ∷ told_by 16 closed.book (Deliver 0 4 1) lent ∷ []) (27 ∷ 0 ∷ [])
    ∷ []

-- calls that are the operator's alone
abbrev pub operator_days : List Case
operator_days =
    case
    (told_by 0 closed.book (Trade 0 5 2 1) [] ∷ told_by 0 traded3.book (Trade 0 5 5 1) [] ∷ told_by 0 traded3.book Close []
    ∷ told_by 0 closed.book Cutoff lent ∷ told_by 0 closed.book (PairOff 0 5) [] ∷ told_by 0 closed.book (Roll 0 0 []) []
    ∷ told_by 0 cut.book (Roll 0 0 []) [] ∷ told_by 0 delivered2.book (Commit ticket7) lent ∷ [])
    (3 ∷ 27 ∷ 27 ∷ 27 ∷ 27 ∷ 3 ∷ 27 ∷ 27 ∷ [])
    -- for mark ahead of 20, for turn after 26
    ∷ case
    (told_by 0 closed.book (Mark 0 1) [] ∷ told_by 16 closed.book (Mark 0 1) [] ∷ told_by 0 closed.book (Mark 16 1) [] ∷ told_by 0 closed.book (Turn 0) []
    ∷ told_by 0 closed.book (Turn 1) [] ∷ [])
    (27 ∷ 20 ∷ 4 ∷ 26 ∷ 27 ∷ [])
    -- a lift and a unit
    ∷ case (asked_by (by 1) delivered2.book 0 7 ∷ asked_by (by 1) delivered2.book 16 7 ∷ []) (no_ticket 27 ∷ no_ticket 4 ∷ [])
    ∷ case (unit_by (by 1) closed.book 0 99 ∷ unit_by (by 1) closed.book 16 0 ∷ []) (unit_refused 27 ∷ unit_refused 4 ∷ [])
    ∷ []

-- P8: account 2 has one entry, account 5 two; P9: charges 2: 20,547; 5: −226,026
abbrev pub look_days : List Case
look_days =
    case (look (by 1) cut.book 0 2 0) (seen (pos 250000) (pos 0) (entry 0 4 2 5000 0))
    ∷ case (look (by 0) cut.book 0 5 1) (seen (negsuc 399999) (pos 0) (entry 0 5 1 30000 0))
    ∷ case (look (by 0) cut.book 0 5 2) (none_seen (negsuc 399999) (pos 0))
    ∷ case (look (by 16) cut.book 0 4 1) (seen (negsuc 229999) (pos 0) (entry 0 4 3 25000 0))
    ∷ case (look (by 0) cut.book 0 2 0 ∷ look (by 0) cut.book 16 64 0 ∷ look (by 0) cut.book 0 64 0 ∷ [])
    (look_refused 27 ∷ look_refused 4 ∷ look_refused 5 ∷ [])
    ∷ case (look (by 1) rolled1.book 0 2 0) (seen (pos 0) (pos 20547) (entry 0 4 2 5000 0))
    ∷ []

unfoldable pub access_days : List Case
access_days = delivery_days ++ (operator_days ++ look_days)

-- each by computing what the definitions give

deliveries_settled : Holds delivery_days
unfolding units handovers partials lacks fails lift_conditions lifts_sound cells_even conditions sound order_in issue_partials issue_fails called called_by traded1 traded2 traded3 closed delivered1 delivered2 cut
deliveries_settled = (refl, (refl, (refl, (refl, (refl, tt)))))

operator_settled : Holds operator_days
unfolding units handovers partials lacks fails lift_conditions lifts_sound cells_even conditions sound lift order_in issue_partials issue_fails called called_by asked_by unit_by traded1 traded2 traded3 closed delivered1 delivered2 cut
operator_settled = (refl, (refl, (refl, (refl, tt))))

looks_settled : Holds look_days
unfolding units handovers partials lacks fails value_of charge_of quotes_right lift_conditions lifts_sound cells_even conditions sound order_in issue_partials issue_fails called look traded1 traded2 traded3 closed delivered1 delivered2 cut rolled1
looks_settled = (refl, (refl, (refl, (refl, (refl, (refl, tt))))))

pub access_settled : Holds access_days
unfolding access_days
access_settled = both_hold delivery_days (operator_days ++ look_days) deliveries_settled (both_hold operator_days look_days operator_settled looks_settled)
