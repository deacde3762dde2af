-- The books that the worked days lead to, call by call from a fresh one.
use Rattle.std.specs.Prelude.{Bool, false, List, [], ◌∷◌, ◌++◌, map, ℕ, zero, suc, ◌+◌, ◌-◌, length, replicate}
use Rattle.rules.specs.declared.Book.{Book}
use Rattle.rules.specs.declared.Ticket.{Ticket}
use Rattle.rules.specs.Measures.{lift_cells}
use Rattle.rules.specs.Units.{account_lots}
use Rattle.rules.specs.Ledger.{entry}
use Rattle.rules.specs.Book.{sound, with_state, with_marks, with_lifts, with_ledger, fresh}
use Rattle.rules.specs.Calls.{Call, Trade, Close, Deliver, Commit, Cutoff, Resolve, PairOff, Roll, Mark, Answer, ticket_for, called}
use Rattle.rules.specs.Tape.{roll_word, quote_word}
use Rattle.rules.specs.Run.{Ran, run_of}
use Rattle.rules.specs.Tally.{Tallied, CallList, after_all, start}
use Rattle.rules.specs.Days.{fail, quotes_p9}

-- a lent output: the words after the last record show that they are kept
abbrev pub lent : List ℕ
lent = replicate 4096 7

-- calls, each with it beside them
abbrev pub beside_lent : List Call → CallList
beside_lent = map (λ c. (c, lent))

-- P5: nets 1: 230,000; 2: 250,000; 3: 150,000; 4: −230,000; 5: −400,000
unfoldable pub traded1 : Answer
traded1 = called fresh (Trade 0 4 1 230000) []

unfoldable pub traded2 : Answer
traded2 = called traded1.book (Trade 0 5 2 250000) []

unfoldable pub traded3 : Answer
traded3 = called traded2.book (Trade 0 5 3 150000) []

unfoldable pub closed : Answer
closed = called traded3.book Close []

-- P6: then 5 delivers 345,000
unfoldable pub delivered1 : Answer
delivered1 = called closed.book (Deliver 0 5 345000) lent

-- P7: 4 delivers 200,000
unfoldable pub delivered2 : Answer
delivered2 = called delivered1.book (Deliver 0 4 200000) lent

-- P8: cutoff
unfoldable pub cut : Answer
cut = called delivered2.book Cutoff lent

-- P9: roll, 1 day, 300, price 100,000, accrued 0
unfoldable pub rolled1 : Answer
rolled1 = called cut.book (Roll 1 300 quotes_p9) []

-- P10: ledger 1→2 30, 2→3 20, 2→1 5; pair-off of 2
unfoldable pub paired_off : Answer
paired_off = called (with_ledger fresh (fail 1 2 30 ∷ fail 2 3 20 ∷ fail 2 1 5 ∷ [])) (PairOff 0 2) []

-- after P8, 4 delivers 6,000 of what it failed: its first entry is met and removed, its second falls
unfoldable pub resolved : Answer
resolved = called cut.book (Resolve 0 4 6000) lent

-- the example of 'The program'
abbrev pub example_tape : List ℕ
example_tape = 0x10042000 ∷ 0x80000003 ∷ 0x50000000 ∷ 0x60000000 ∷ []

unfoldable pub example_run : Ran
example_run = run_of example_tape false

-- the same calls as P5 to P8 and the resolve after it, tallied
unfoldable pub tallied : Tallied
tallied =
    after_all start
    (beside_lent (Trade 0 4 1 230000 ∷ Trade 0 5 2 250000 ∷ Trade 0 5 3 150000 ∷ Close ∷ Deliver 0 5 345000
    ∷ Deliver 0 4 200000 ∷ []))

unfoldable pub tallied_cut : Tallied
tallied_cut = after_all tallied (beside_lent (Cutoff ∷ Resolve 0 4 6000 ∷ []))

-- Lifts

-- after P7, unit 7 (account 1, 30,000 lots) is lifted while 45,000 lots are in stock
abbrev pub ticket7 : Ticket
ticket7 = ticket_for 0 7 (account_lots 1 30000) 0 2

unfoldable pub committed7 : Answer
committed7 = called delivered2.book (Commit ticket7) lent

-- and then the unit that is the last now (account 3, 50,000 lots): the two lifts cross
abbrev pub ticket_last : Ticket
ticket_last = ticket_for 0 7 (account_lots 3 50000) 0 3

unfoldable pub crossed : Answer
crossed = called committed7.book (Commit ticket_last) lent

-- the next unit is lifted to its own place, n times one after the other
abbrev pub ticket5 : ℕ → Ticket
ticket5 n = ticket_for 0 5 (account_lots 2 50000) 0 (2 + n)

abbrev pub own_places : ℕ → Book
own_places zero = delivered2.book
own_places (suc n) = (called (own_places n) (Commit (ticket5 n)) lent).book

unfoldable pub eight_lifts : Book
eight_lifts = own_places 8

-- 3 sells 300,000 to 1 and 200,000 to 2; unit 3 of the units 1 1 1 2 2 is lifted, 50,000 are delivered, cutoff
unfoldable pub parted : Tallied
parted =
    after_all start
    (beside_lent (Trade 0 3 1 300000 ∷ Trade 0 3 2 200000 ∷ Close ∷ Commit (ticket_for 0 3 (account_lots 2 100000) 0 0)
    ∷ Deliver 0 3 50000 ∷ []))

unfoldable pub parted_cut : Answer
parted_cut = called parted.book Cutoff lent

-- is a book sound with these first words of lifts, all others 0?
abbrev pub sound_lifted : Book → List ℕ → Bool
sound_lifted b ws = sound (with_lifts b (ws ++ replicate (lift_cells - length ws) 0))

-- Marks

-- issue 3 is marked; 1 sells 100,002 to 2: a unit of 100,000 and one of 2; 1 delivers 50,000; cutoff, roll
abbrev pub marks3 : List ℕ
marks3 = 0 ∷ 0 ∷ 0 ∷ 1 ∷ replicate 12 0

unfoldable pub marked_trade : Answer
marked_trade = called (called fresh (Mark 3 1) []).book (Trade 3 1 2 100002) []

unfoldable pub marked_close : Answer
marked_close = called marked_trade.book Close []

unfoldable pub marked_delivery : Answer
marked_delivery = called marked_close.book (Deliver 3 1 50000) lent

unfoldable pub marked_cut : Answer
marked_cut = called marked_delivery.book Cutoff lent

unfoldable pub marked_roll : Answer
marked_roll = called marked_cut.book (Roll 1 300 quotes_p9) []

-- is a book sound with issue 3 marked?
abbrev pub sound_marked : Book → Bool
sound_marked b = sound (with_state b (with_marks b.state marks3))

-- 1 sells x lots of issue 3 to 2 and delivers d of them
abbrev pub sold : ℕ → Book
sold x = (called fresh (Trade 3 1 2 x) []).book

abbrev pub part_of4 : ℕ → Book
part_of4 d = (called (called (sold 4) Close []).book (Deliver 3 1 d) lent).book

-- one entry
abbrev pub with_entry : ℕ → ℕ → Book
with_entry i x = with_ledger fresh (entry i 1 2 x 0 ∷ [])

-- Accrued interest

-- 1 sells 3 lots of issue 1 to 2 and fails; roll, 12 days, 10,000, price 101, accrued 1, and 10,000 in the other issues
unfoldable pub accruing : Tallied
accruing =
    after_all start
    (beside_lent (Trade 1 1 2 3 ∷ Close ∷ Cutoff ∷ Roll 12 10000 (replicate 16 101 ++ (10000 ∷ 1 ∷ replicate 14 10000)) ∷ []))

-- a roll of 17 words, as it was before accrued amounts
abbrev pub older_roll : List ℕ
older_roll = roll_word 1 300 ∷ replicate 16 (quote_word 100000)
