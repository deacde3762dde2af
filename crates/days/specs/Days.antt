-- The settled days P1 to P11, and days of our own, as one list with one proof: those on lists, and those on whole books.
use Rattle.std.specs.Prelude.{refl, true, false, List, [], ◌∷◌, ◌++◌, ℕ, ◌-◌, replicate, take, pos, negsuc}
use Rattle.rules.specs.declared.Name.TheVariants as name
use Rattle.rules.specs.Measures.{value_of, charge_of}
use Rattle.rules.specs.Units.{account_lots, units, sum_lots}
use Rattle.rules.specs.Handover.{handovers, partials}
use Rattle.rules.specs.Lifts.{lift_of, lift}
use Rattle.rules.specs.Fails.{lacks, fails}
use Rattle.rules.specs.Ledger.{entry, pairing}
use Rattle.rules.specs.Book.{lift_conditions, lifts_sound, conditions, sound, lifts_at, count_at, order_in, order_of, stock_of, ledger_of, cells_even, with_state, with_marks, fresh}
use Rattle.rules.specs.Questions.{quotes_right}
use Rattle.rules.specs.Calls.{Trade, Deliver, Commit, Resolve, Roll, Mark, Answer, some_ticket, no_ticket, one_unit, no_unit, called, asked, unit, issue_partials, issue_fails}
use Rattle.rules.specs.Tape.{read_of, quotes_of}
use Rattle.rules.specs.Run.{run_of, answer_of, fail_lines, charge_lines, line}
use Rattle.rules.specs.Text.{decimal, line_text, fail_text, charge_text, ran_of, closing_text, printed_of}
use Rattle.rules.specs.Tally.{in_issue}
use Rattle.rules.specs.Days.{Case, case, Holds, both_hold, units_p5, fail, quotes_p9, list_days, lists_settled}
use Rattle.days.specs.Books.{lent, traded1, traded2, traded3, closed, delivered1, delivered2, cut, rolled1, paired_off, resolved, example_run, tallied, tallied_cut, ticket7, committed7, ticket_last, crossed, ticket5, own_places, eight_lifts, parted, parted_cut, sound_lifted, marks3, marked_trade, marked_close, marked_delivery, marked_cut, marked_roll, sound_marked, sold, part_of4, with_entry, accruing, older_roll}

-- number, count and the first words of the output
abbrev pub numbers : ℕ → Answer → List ℕ
numbers n a = a.refusal ∷ a.count ∷ take n a.out

-- P5 to P9, through the calls on the whole book
abbrev pub book_days : List Case
book_days =
    -- P5: order by account 2 2 1 1 3, then 2 (50,000), 3 (50,000), 1 (30,000)
    case (order_of closed.book 0) units_p5
    ∷ case (unit closed.book 0 7) (one_unit 1 30000)
    ∷ case (unit closed.book 0 8) no_unit
    -- P6: three units, stock 45,000
    ∷ case (numbers 7 delivered1)
    (0 ∷ 3 ∷ 0xa0002000 ∷ 0x800186a0 ∷ 0xa0002000 ∷ 0x800186a0 ∷ 0xa0001000 ∷ 0x800186a0 ∷ 7 ∷ [])
    ∷ case (stock_of delivered1.book 0) 45000
    -- P7: two units, stock 45,000
    ∷ case (numbers 5 delivered2) (0 ∷ 2 ∷ 0xa0001000 ∷ 0x800186a0 ∷ 0xa0003000 ∷ 0x800186a0 ∷ 7 ∷ [])
    ∷ case (stock_of delivered2.book 0) 45000
    -- P8: 45,000 to 2; fails 4→2 5,000, 4→3 25,000, 5→3 25,000, 5→1 30,000
    ∷ case (numbers 11 cut)
    (0 ∷ 5 ∷ 0xa0002000 ∷ 0x8000afc8 ∷ 0xc0102000 ∷ 0x80001388 ∷ 0xc0103000 ∷ 0x800061a8
    ∷ 0xc0143000 ∷ 0x800061a8 ∷ 0xc0141000 ∷ 0x80007530 ∷ 7 ∷ [])
    ∷ case (ledger_of cut.book) (fail 4 2 5000 ∷ fail 4 3 25000 ∷ fail 5 3 25000 ∷ fail 5 1 30000 ∷ [])
    -- P9: charges 1: 123,287; 2: 20,547; 3: 205,478; 4: −123,286; 5: −226,026
    ∷ case rolled1.book.charges
    (pos 0 ∷ pos 123287 ∷ pos 20547 ∷ pos 205478 ∷ negsuc 123285 ∷ negsuc 226025 ∷ replicate 58 (pos 0))
    ∷ []

-- P10, and lots 0 and 20,000,001: refused 7
abbrev pub ledger_days : List Case
ledger_days =
    -- P10: 1→2 5, 1→3 20; 2 steps, 25 lots
    case (ledger_of paired_off.book) (fail 1 2 5 ∷ fail 1 3 20 ∷ [])
    ∷ case (paired_off.refusal ∷ paired_off.count ∷ paired_off.cancelled ∷ []) (0 ∷ 2 ∷ 25 ∷ [])
    ∷ case ((called fresh (Trade 0 1 2 0) []).refusal ∷ (called fresh (Trade 0 1 2 20000001) []).refusal ∷ []) (7 ∷ 7 ∷ [])
    ∷ []

-- the bytes of the example of 'The program', and what is printed for them
abbrev pub example_bytes : List ℕ
example_bytes = 0x00 ∷ 0x20 ∷ 0x04 ∷ 0x10 ∷ 0x03 ∷ 0x00 ∷ 0x00 ∷ 0x80 ∷ 0x00 ∷ 0x00 ∷ 0x00 ∷ 0x50 ∷ 0x00 ∷ 0x00 ∷ 0x00 ∷ 0x60 ∷ []

abbrev pub example_text : List ℕ
example_text =
    (48 ∷ 32 ∷ 116 ∷ 114 ∷ 97 ∷ 100 ∷ 101 ∷ 32 ∷ 48 ∷ 32 ∷ 48 ∷ 10 ∷ [])
    ++ (50 ∷ 32 ∷ 99 ∷ 108 ∷ 111 ∷ 115 ∷ 101 ∷ 32 ∷ 48 ∷ 32 ∷ 48 ∷ 10 ∷ [])
    ++ (51 ∷ 32 ∷ 99 ∷ 117 ∷ 116 ∷ 111 ∷ 102 ∷ 102 ∷ 32 ∷ 48 ∷ 32 ∷ 49 ∷ 10 ∷ [])
    ++ (70 ∷ 32 ∷ 48 ∷ 32 ∷ 49 ∷ 32 ∷ 50 ∷ 32 ∷ 51 ∷ 32 ∷ 48 ∷ 10 ∷ [])

-- the example, through tape and run
abbrev pub program_days : List Case
program_days =
    case example_run.lines (line 0 name.Trade 0 0 ∷ line 2 name.Close 0 0 ∷ line 3 name.Cutoff 0 1 ∷ [])
    ∷ case (fail_lines example_run.book) (fail 1 2 3 ∷ [])
    ∷ case (charge_lines example_run.book) []
    ∷ case (printed_of example_bytes) example_text
    ∷ []

-- days of our own
abbrev pub own_days : List Case
own_days =
    -- resolve: 4→2 is met whole and goes, 4→3 falls
    case (numbers 5 resolved) (0 ∷ 2 ∷ 0xb0102000 ∷ 0x80001388 ∷ 0xb0103000 ∷ 0x800003e8 ∷ 7 ∷ [])
    ∷ case (ledger_of resolved.book) (fail 4 3 24000 ∷ fail 5 3 25000 ∷ fail 5 1 30000 ∷ [])
    -- a last word of 1 to 3 bytes is not whole
    ∷ case (run_of [] true).lines (line 0 name.Tape 13 0 ∷ [])
    -- a wrong word that is present gives 14 even if later words lack
    ∷ case (run_of (0x20000001 ∷ []) false).lines (line 0 name.Tape 14 0 ∷ [])
    -- the tally of P5 to P7, and of P8 and the resolve after it
    ∷ case (in_issue tallied.tally.today.given 0 - sum_lots (tallied.tally.rows 0)) 45000
    ∷ case (tallied_cut.tally.rows 0)
    (account_lots 2 100000 ∷ account_lots 2 100000 ∷ account_lots 1 100000 ∷ account_lots 1 100000 ∷ account_lots 3 100000 ∷ account_lots 2 45000 ∷ [])
    ∷ case
    (tallied_cut.tally.in_all.handed 0 2 ∷ tallied_cut.tally.in_all.handed 0 3 ∷ tallied_cut.tally.in_all.given 0 4 ∷ [])
    (250000 ∷ 101000 ∷ 206000 ∷ [])
    ∷ []

-- days with lifts
abbrev pub lift_days : List Case
lift_days =
    -- unit 7 after P7: the ticket, and what the commit hands over
    case (asked delivered2.book 0 7) (some_ticket ticket7)
    ∷ case (numbers 3 committed7) (0 ∷ 1 ∷ 0xa0001000 ∷ 0x80007530 ∷ 7 ∷ [])
    ∷ case (order_of committed7.book 0)
    (account_lots 2 100000 ∷ account_lots 2 100000 ∷ account_lots 1 100000 ∷ account_lots 1 100000 ∷ account_lots 3 100000
    ∷ account_lots 1 30000 ∷ account_lots 2 50000 ∷ account_lots 3 50000 ∷ [])
    ∷ case (stock_of committed7.book 0) 15000
    -- the same ticket used twice: unit 7 is another one now
    ∷ case (numbers 1 (called committed7.book (Commit ticket7) lent)) (17 ∷ 0 ∷ 7 ∷ [])
    ∷ case (asked committed7.book 0 7) (some_ticket ticket_last)
    -- a unit that is handed, and one that there is not
    ∷ case (asked committed7.book 0 5) (no_ticket 16)
    ∷ case (asked committed7.book 0 8) (no_ticket 16)
    -- two lifts that cross: the second is of the order as the first left it
    ∷ case (numbers 1 crossed) (0 ∷ 0 ∷ 7 ∷ [])
    ∷ case (order_of crossed.book 0)
    (account_lots 2 100000 ∷ account_lots 2 100000 ∷ account_lots 1 100000 ∷ account_lots 1 100000 ∷ account_lots 3 100000
    ∷ account_lots 1 30000 ∷ account_lots 3 50000 ∷ account_lots 2 50000 ∷ [])
    -- a lift to its own place stands and is counted, and hands nothing over
    ∷ case (numbers 1 (called delivered2.book (Commit (ticket5 0)) lent)) (0 ∷ 0 ∷ 7 ∷ [])
    ∷ case (lifts_at (own_places 2).lifts 0) (lift_of 5 5 ∷ lift_of 5 5 ∷ [])
    ∷ case (count_at (own_places 2).lifts 0) 4
    -- a ninth lift; with the ticket before it 17 comes first
    ∷ case (numbers 1 (called eight_lifts (Commit (ticket5 8)) lent)) (18 ∷ 0 ∷ 7 ∷ [])
    ∷ case (numbers 1 (called eight_lifts (Commit (ticket5 7)) lent)) (17 ∷ 0 ∷ 7 ∷ [])
    -- full units of 2 that lie apart fail as one stretch, at the place of the first
    ∷ case (order_of parted.book 0)
    (account_lots 2 100000 ∷ account_lots 1 100000 ∷ account_lots 1 100000 ∷ account_lots 1 100000 ∷ account_lots 2 100000 ∷ [])
    ∷ case (numbers 7 parted_cut)
    (0 ∷ 3 ∷ 0xa0002000 ∷ 0x8000c350 ∷ 0xc00c2000 ∷ 0x800249f0 ∷ 0xc00c1000 ∷ 0x800493e0 ∷ 7 ∷ [])
    -- the tally knows the lift from the commit
    ∷ case (parted.tally.lifts 0) (lift_of 3 0 ∷ [])
    -- a roll clears lifts and count
    ∷ case (called parted_cut.book (Roll 1 300 quotes_p9) []).book.lifts (replicate 288 0)
    ∷ []

-- books that only their lifts make unsound, each beside a sound one
abbrev pub lifted_books : List Case
lifted_books =
    -- after P7, with 8 units, 5 of them handed, and 545,000 delivered: eight lifts, and nine
    case (sound_lifted delivered2.book (8 ∷ 10 ∷ []) ∷ sound_lifted delivered2.book (9 ∷ 11 ∷ []) ∷ []) (true ∷ false ∷ [])
    -- two lifts; and a new place below the last one
    ∷ case (sound_lifted delivered2.book (2 ∷ 4 ∷ 7 ∷ 5 ∷ 7 ∷ 5 ∷ []) ∷ sound_lifted delivered2.book (2 ∷ 4 ∷ 7 ∷ 5 ∷ 7 ∷ 4 ∷ []) ∷ [])
    (true ∷ false ∷ [])
    -- a new place behind the old one; an old place where no unit is; a new place behind the units handed
    ∷ case
    (sound_lifted delivered2.book (1 ∷ 3 ∷ 4 ∷ 5 ∷ []) ∷ sound_lifted delivered2.book (1 ∷ 3 ∷ 8 ∷ 5 ∷ [])
    ∷ sound_lifted delivered2.book (1 ∷ 3 ∷ 7 ∷ 6 ∷ []) ∷ [])
    (false ∷ false ∷ false ∷ [])
    -- the count at lots delivered plus lifts, and above
    ∷ case
    (sound_lifted delivered2.book (2 ∷ 545002 ∷ 7 ∷ 5 ∷ 7 ∷ 5 ∷ []) ∷ sound_lifted delivered2.book (2 ∷ 545003 ∷ 7 ∷ 5 ∷ 7 ∷ 5 ∷ []) ∷ [])
    (true ∷ false ∷ [])
    -- a lift in Settling, and in Taking
    ∷ case (sound_lifted closed.book (1 ∷ 1 ∷ 0 ∷ 0 ∷ []) ∷ sound_lifted traded3.book (1 ∷ 1 ∷ 0 ∷ 0 ∷ []) ∷ []) (true ∷ false ∷ [])
    ∷ []

-- days with a marked issue
abbrev pub mark_days : List Case
mark_days =
    -- odd lots are refused, after 7 and before 8; another issue takes them; the mark is refused while the issue has a net
    case
    ((called marked_trade.book (Trade 3 1 2 20000001) []).refusal ∷ (called marked_trade.book (Trade 3 1 2 19999999) []).refusal
    ∷ (called marked_trade.book (Trade 4 1 2 3) []).refusal ∷ (called marked_trade.book (Mark 3 0) []).refusal ∷ [])
    (7 ∷ 19 ∷ 0 ∷ 20 ∷ [])
    -- a delivery that ends inside a unit
    ∷ case (order_of marked_close.book 3) (account_lots 2 100000 ∷ account_lots 2 2 ∷ [])
    ∷ case (numbers 1 marked_delivery) (0 ∷ 0 ∷ 7 ∷ [])
    ∷ case (stock_of marked_delivery.book 3) 50000
    -- before 9 too
    ∷ case ((called marked_delivery.book (Deliver 3 1 50003) lent).refusal ∷ (called marked_delivery.book (Deliver 3 1 50004) lent).refusal ∷ []) (19 ∷ 9 ∷ [])
    -- cutoff: the stock to 2, then what its full and its small unit lack
    ∷ case (numbers 7 marked_cut)
    (0 ∷ 3 ∷ 0xa3002000 ∷ 0x8000c350 ∷ 0xc3042000 ∷ 0x8000c350 ∷ 0xc3042000 ∷ 0x80000002 ∷ 7 ∷ [])
    -- resolve: the first entry falls
    ∷ case (ledger_of (called marked_cut.book (Resolve 3 1 6000) lent).book) (entry 3 1 2 44000 0 ∷ entry 3 1 2 2 0 ∷ [])
    ∷ case ((called marked_cut.book (Resolve 3 1 50003) lent).refusal ∷ []) (19 ∷ [])
    -- the mark stays over days; it is refused while the issue has an entry, whatever it is; one of no use is set and taken away
    ∷ case marked_roll.book.state.marks marks3
    ∷ case
    ((called marked_roll.book (Mark 3 1) []).refusal ∷ (called marked_roll.book (Mark 16 1) []).refusal
    ∷ (called marked_roll.book (Mark 4 7) []).book.state.marks)
    (20 ∷ 4 ∷ 0 ∷ 0 ∷ 0 ∷ 1 ∷ 1 ∷ replicate 11 0)
    ∷ case (called (with_state fresh (with_marks fresh.state marks3)) (Mark 3 0) []).book.state.marks (replicate 16 0)
    -- books that only odd lots of a marked issue make unsound, each beside a sound one: nets, delivered lots, an entry
    ∷ case (sound_marked (sold 4) ∷ sound_marked (sold 3) ∷ []) (true ∷ false ∷ [])
    ∷ case (sound_marked (part_of4 2) ∷ sound_marked (part_of4 3) ∷ []) (true ∷ false ∷ [])
    ∷ case (sound_marked (with_entry 3 3) ∷ sound_marked (with_entry 4 3) ∷ []) (false ∷ true ∷ [])
    -- the word of a mark: bits 23..1 are unused
    ∷ case (run_of (0xd3000001 ∷ 0xd3000002 ∷ []) false).lines (line 0 name.Mark 0 0 ∷ line 1 name.Tape 14 0 ∷ [])
    ∷ []

-- days with accrued interest
abbrev pub accrued_days : List Case
accrued_days =
    -- 3 lots at 101 and accrued 1 have value 151 and 1; the charge on 152 is 4, and on 153 it would be 5
    case accruing.book.charges (pos 0 ∷ negsuc 3 ∷ pos 4 ∷ replicate 61 (pos 0))
    -- an older roll: 13 at the tape's end, 14 where another word follows
    ∷ case (run_of older_roll false).lines (line 0 name.Tape 13 0 ∷ [])
    ∷ case (run_of (older_roll ++ (0x50000000 ∷ [])) false).lines (line 0 name.Tape 14 0 ∷ [])
    ∷ []

unfoldable pub base_days : List Case
base_days = book_days ++ ledger_days ++ program_days ++ own_days

unfoldable pub settled_days : List Case
settled_days = list_days ++ (base_days ++ (lift_days ++ (lifted_books ++ (mark_days ++ accrued_days))))

-- each by computing what the definitions give

pub base_settled : Holds base_days
unfolding base_days units handovers partials lacks fails pairing value_of charge_of quotes_right lift_conditions lifts_sound cells_even conditions sound order_in issue_partials issue_fails called unit read_of quotes_of answer_of run_of decimal line_text fail_text charge_text ran_of closing_text printed_of in_issue traded1 traded2 traded3 closed delivered1 delivered2 cut rolled1 paired_off resolved example_run tallied tallied_cut
base_settled =
    (refl, (refl, (refl, (refl, (refl, (refl, (refl, (refl, (refl, (refl, (refl, (refl, (refl, (refl, (refl, (refl, (refl, (refl, (refl, (refl, (refl, (refl, (refl, (refl, tt))))))))))))))))))))))))

pub lift_settled : Holds lift_days
unfolding units handovers partials lacks fails value_of charge_of quotes_right lift_conditions lifts_sound cells_even conditions sound lift order_in issue_partials issue_fails called asked traded1 traded2 traded3 closed delivered1 delivered2 committed7 crossed eight_lifts parted parted_cut
lift_settled =
    (refl, (refl, (refl, (refl, (refl, (refl, (refl, (refl, (refl, (refl, (refl, (refl, (refl, (refl, (refl, (refl, (refl, (refl, (refl, tt)))))))))))))))))))

pub lifted_settled : Holds lifted_books
unfolding units handovers lift_conditions lifts_sound cells_even conditions sound lift order_in called traded1 traded2 traded3 closed delivered1 delivered2
lifted_settled = (refl, (refl, (refl, (refl, (refl, tt)))))

pub mark_settled : Holds mark_days
unfolding units handovers partials lacks fails value_of charge_of quotes_right lift_conditions lifts_sound cells_even conditions sound order_in issue_partials issue_fails called read_of quotes_of answer_of run_of marked_trade marked_close marked_delivery marked_cut marked_roll
mark_settled =
    (refl, (refl, (refl, (refl, (refl, (refl, (refl, (refl, (refl, (refl, (refl, (refl, (refl, (refl, (refl, tt)))))))))))))))

pub accrued_settled : Holds accrued_days
unfolding units partials lacks fails value_of charge_of quotes_right lift_conditions lifts_sound cells_even conditions sound order_in issue_partials issue_fails called read_of answer_of run_of accruing
accrued_settled = (refl, (refl, (refl, tt)))

-- and so all of them
pub settled : Holds settled_days
unfolding settled_days
settled =
    both_hold list_days (base_days ++ (lift_days ++ (lifted_books ++ (mark_days ++ accrued_days)))) lists_settled
    (both_hold base_days (lift_days ++ (lifted_books ++ (mark_days ++ accrued_days))) base_settled
    (both_hold lift_days (lifted_books ++ (mark_days ++ accrued_days)) lift_settled
    (both_hold lifted_books (mark_days ++ accrued_days) lifted_settled (both_hold mark_days accrued_days mark_settled accrued_settled))))
