-- Days with full units dealt in turn, on whole books; cases on lists are in `rules` (TurnCases).
use Rattle.std.specs.Prelude.{refl, List, [], ◌∷◌, ◌++◌, replicate}
use Rattle.rules.specs.declared.Book.{Book}
use Rattle.rules.specs.Measures.{value_of, charge_of}
use Rattle.rules.specs.Units.{units}
use Rattle.rules.specs.Dealt.{dealt}
use Rattle.rules.specs.Handover.{handovers, partials}
use Rattle.rules.specs.Lifts.{lift}
use Rattle.rules.specs.Fails.{lacks, fails}
use Rattle.rules.specs.Ledger.{entry}
use Rattle.rules.specs.Book.{lift_conditions, lifts_sound, cells_even, conditions, sound, order_in, order_of, ledger_of, with_turn, next_day, with_state, fresh}
use Rattle.rules.specs.Questions.{quotes_right}
use Rattle.rules.specs.Calls.{Trade, Close, Deliver, Commit, Cutoff, Roll, Mark, Turn, Answer, ticket_for, one_unit, called, unit, issue_partials, issue_fails}
use Rattle.rules.specs.Tally.{Tallied, after_all, start, units_today}
use Rattle.rules.specs.Days.{quotes_p9, Case, case, Holds, both_hold}
use Rattle.rules.specs.TurnCases.{full, small_p5}
use Rattle.days.specs.Books.{lent, beside_lent}
use Rattle.days.specs.Days.{numbers}

-- P5's market on day 1, the first day of the new order
unfoldable pub dealt_book : Book
dealt_book =
    (called (called (called (called (with_state fresh (with_turn (next_day fresh.state) 1)) (Trade 0 4 1 230000) []).book (Trade 0 5 2 250000) []).book (Trade 0 5 3 150000) []).book Close []).book

unfoldable pub dealt1 : Answer
dealt1 = called dealt_book (Deliver 0 5 345000) lent

-- unit 4, the second of account 1, is lifted: 45,000 lots are in stock
unfoldable pub dealt_lift : Answer
dealt_lift = called dealt1.book (Commit (ticket_for 0 4 (full 1) 1 1)) lent

-- the cutoff after 150,000: full units of 1 lie apart
unfoldable pub dealt_cut : Answer
dealt_cut = called (called dealt_book (Deliver 0 5 150000) lent).book Cutoff lent

-- day 0: issue 3 is marked, day 9 is named and then day 1 instead, 6 fails 3 lots of issue 1 to 7; on day 1 account 8 sells to 1 and 2
unfoldable pub brought_day : Tallied
brought_day =
    after_all start
    (beside_lent (Mark 3 1 ∷ Turn 9 ∷ Trade 1 6 7 3 ∷ Close ∷ Turn 1 ∷ Cutoff ∷ Roll 1 300 quotes_p9 ∷ Trade 0 8 1 200000 ∷ Trade 0 8 2 100000 ∷ []))

-- 345,000 hand over a unit each to 2, 1 and 3; the next is 2's second
abbrev pub dealt_days : List Case
dealt_days =
    case (numbers 7 dealt1) (0 ∷ 3 ∷ 0xa0002000 ∷ 0x800186a0 ∷ 0xa0001000 ∷ 0x800186a0 ∷ 0xa0003000 ∷ 0x800186a0 ∷ 7 ∷ [])
    ∷ case (unit dealt_book 0 3) (one_unit 2 100000)
    ∷ []

-- the lifted unit stands behind those handed
abbrev pub dealt_lifts : List Case
dealt_lifts = case (order_of dealt_lift.book 0) (full 2 ∷ full 1 ∷ full 3 ∷ full 1 ∷ full 2 ∷ small_p5) ∷ []

-- the stock of 50,000 to 1, whose full units fail as one stretch at the place of the first
abbrev pub dealt_cuts : List Case
dealt_cuts =
    case (ledger_of dealt_cut.book)
    (entry 0 4 1 150000 1 ∷ entry 0 4 3 80000 1 ∷ entry 0 5 3 20000 1 ∷ entry 0 5 2 100000 1
    ∷ entry 0 5 2 50000 1 ∷ entry 0 5 3 50000 1 ∷ entry 0 5 1 30000 1 ∷ [])
    ∷ []

-- the new order in book and tally; fails and marks carry over; 26 on the day itself
abbrev pub brought_days : List Case
brought_days =
    case (units_today brought_day.tally 0) (full 1 ∷ full 2 ∷ full 1 ∷ [])
    ∷ case (brought_day.tally.day ∷ brought_day.tally.turn ∷ brought_day.book.state.turn ∷ []) (1 ∷ 1 ∷ 1 ∷ [])
    ∷ case (ledger_of brought_day.book) (entry 1 6 7 3 0 ∷ [])
    ∷ case brought_day.book.state.marks (0 ∷ 0 ∷ 0 ∷ 1 ∷ replicate 12 0)
    ∷ case (called brought_day.book (Turn 2) []).refusal 26
    ∷ []

unfoldable pub turn_days : List Case
turn_days = dealt_days ++ (dealt_lifts ++ (dealt_cuts ++ brought_days))

-- each by computing what the definitions give

dealt_settled : Holds dealt_days
unfolding units dealt handovers lift_conditions lifts_sound cells_even conditions sound order_in called unit dealt_book dealt1
dealt_settled = (refl, (refl, tt))

lift_settled : Holds dealt_lifts
unfolding units dealt handovers lift_conditions lifts_sound cells_even conditions sound lift order_in called dealt_book dealt1 dealt_lift
lift_settled = (refl, tt)

cut_settled : Holds dealt_cuts
unfolding units dealt handovers partials lacks fails lift_conditions lifts_sound cells_even conditions sound order_in issue_partials issue_fails called dealt_book dealt_cut
cut_settled = (refl, tt)

brought_settled : Holds brought_days
unfolding units dealt handovers partials lacks fails value_of charge_of quotes_right lift_conditions lifts_sound cells_even conditions sound order_in issue_partials issue_fails called brought_day
brought_settled = (refl, (refl, (refl, (refl, (refl, tt)))))

pub turns_settled : Holds turn_days
unfolding turn_days
turns_settled =
    both_hold dealt_days (dealt_lifts ++ (dealt_cuts ++ brought_days)) dealt_settled
    (both_hold dealt_lifts (dealt_cuts ++ brought_days) lift_settled (both_hold dealt_cuts brought_days cut_settled brought_settled))
