-- Worked days on lists, without a book: P1 to P11 as far as lists show them, and days of our own, as one list with one proof.
-- The days on whole books stand in the crate `days`, whose list begins with this one.
use Rattle.std.specs.Prelude.{◌≡◌, refl, Bool, true, false, List, [], ◌∷◌, ◌++◌, map, ℕ, replicate, ℤ, pos, negsuc}
use Rattle.rules.specs.declared.Entry.{Entry}
use Rattle.rules.specs.declared.Phase.{Phase}
use Rattle.rules.specs.declared.Phase.TheVariants.{Taking, Settling}
use Rattle.rules.specs.Measures.{times, unit_lots, value_of, charge_of}
use Rattle.rules.specs.Units.{AccountLots, account_lots, units, units_of_nets}
use Rattle.rules.specs.Ranking.{ranks_before, alike}
use Rattle.rules.specs.Handover.{stock, handovers, partials}
use Rattle.rules.specs.Lifts.{lift_of, lift, lifted}
use Rattle.rules.specs.Fails.{Fail, fail_of, lacks, fails}
use Rattle.rules.specs.Ledger.{entry, pairing, charged}
use Rattle.rules.specs.Book.{lift_conditions, cells_even, entry_even}
use Rattle.rules.specs.Questions.{first_no}
use Rattle.rules.specs.Calls.{some_yen, no_yen, value, charge, trade_asks, deliver_asks, resolve_asks, ticket_for, commit_asks}

-- a case: what the definitions give, and what the paper states
pub data Case : Type 1 where
  case : {A : Type 0} → A → A → Case

abbrev pub Holds : List Case → Type 0
Holds [] = Unit {0}
Holds (case x y ∷ cs) = (x ≡ y) × Holds cs

-- of two lists that hold, both
abbrev pub both_hold : (cs ds : List Case) → Holds cs → Holds ds → Holds (cs ++ ds)
both_hold [] ds hs ks = ks
both_hold (case x y ∷ cs) ds hs ks = (hs.0, both_hold cs ds hs.1 ks)

-- P1 to P4: 99,999: one small unit. 100,000: one full. 100,001: a full and 1. 0: none
abbrev pub unit_days : List Case
unit_days =
    case (units_of_nets unit_lots (pos 99999 ∷ [])) (account_lots 0 99999 ∷ [])
    ∷ case (units_of_nets unit_lots (pos 100000 ∷ [])) (account_lots 0 100000 ∷ [])
    ∷ case (units_of_nets unit_lots (pos 100001 ∷ [])) (account_lots 0 100000 ∷ account_lots 0 1 ∷ [])
    ∷ case (units_of_nets unit_lots (pos 0 ∷ [])) []
    ∷ []

-- P5: what is due to each account, and the units in their order
abbrev pub dues_p5 : List ℕ
dues_p5 = 0 ∷ 230000 ∷ 250000 ∷ 150000 ∷ []

abbrev pub units_p5 : List AccountLots
units_p5 =
    account_lots 2 100000 ∷ account_lots 2 100000 ∷ account_lots 1 100000 ∷ account_lots 1 100000 ∷ account_lots 3 100000
    ∷ account_lots 2 50000 ∷ account_lots 3 50000 ∷ account_lots 1 30000 ∷ []

-- an entry of issue 0, day 0, and lots that one account fails to another
abbrev pub fail : ℕ → ℕ → ℕ → Entry
fail f t x = entry 0 f t x 0

abbrev pub lots_failed : ℕ → ℕ → ℕ → Fail
lots_failed f t x = fail_of f (account_lots t x)

-- price 100,000 and accrued 0 in each issue
abbrev pub quotes_p9 : List ℕ
quotes_p9 = replicate 16 100000 ++ replicate 16 0

-- P5 to P10
abbrev pub issue_days : List Case
issue_days =
    case (units unit_lots dues_p5) units_p5
    -- P6: three units, stock 45,000. P7: two units, stock 45,000
    ∷ case (handovers units_p5 0 345000) (account_lots 2 100000 ∷ account_lots 2 100000 ∷ account_lots 1 100000 ∷ [])
    ∷ case (handovers units_p5 345000 200000) (account_lots 1 100000 ∷ account_lots 3 100000 ∷ [])
    ∷ case (stock units_p5 345000 ∷ stock units_p5 545000 ∷ []) (45000 ∷ 45000 ∷ [])
    -- P8: 45,000 to 2; fails 4→2 5,000, 4→3 25,000, 5→3 25,000, 5→1 30,000
    ∷ case (partials units_p5 545000) (account_lots 2 45000 ∷ [])
    ∷ case (fails unit_lots units_p5 (0 ∷ 0 ∷ 0 ∷ 0 ∷ 230000 ∷ 400000 ∷ []) (0 ∷ 0 ∷ 0 ∷ 0 ∷ 200000 ∷ 345000 ∷ []))
    (lots_failed 4 2 5000 ∷ lots_failed 4 3 25000 ∷ lots_failed 5 3 25000 ∷ lots_failed 5 1 30000 ∷ [])
    -- P9: charges 1: 123,287; 2: 20,547; 3: 205,478; 4: −123,286; 5: −226,026
    ∷ case (charged 1 300 quotes_p9 (fail 4 2 5000 ∷ fail 4 3 25000 ∷ fail 5 3 25000 ∷ fail 5 1 30000 ∷ []) (replicate 6 (pos 0)))
    (pos 0 ∷ pos 123287 ∷ pos 20547 ∷ pos 205478 ∷ negsuc 123285 ∷ negsuc 226025 ∷ [])
    -- P10: ledger 1→2 30, 2→3 20, 2→1 5; pair-off of 2: 1→2 5, 1→3 20; 2 steps, 25 lots
    ∷ case (pairing 0 0 2 (fail 1 2 30 ∷ fail 2 3 20 ∷ fail 2 1 5 ∷ []))
    (record { steps = 2; cancelled = 25; ledger = fail 1 2 5 ∷ fail 1 3 20 ∷ [] })
    ∷ []

-- value and charge alone
abbrev pub yen_days : List Case
yen_days =
    -- P11: 1 lot at 99,999, accrued 0: value 49,999; 12 days at 10,000: 1,643. Lots 0 and 20,000,001: refused 7
    case (value 1 99999 0) (some_yen 49999)
    ∷ case (charge 1 99999 12 10000 0) (some_yen 1643)
    ∷ case (value 0 1 0) (no_yen 7)
    ∷ case (value 20000001 1 0) (no_yen 7)
    -- charge rounds twice: 1 lot at 61 has value 30, and 12 days at 10,000 give 0 and not 1
    ∷ case (charge 1 61 12 10000 0) (some_yen 0)
    -- lots are asked before the price
    ∷ case (value 0 0 0) (no_yen 7)
    -- the limits themselves are within, and the largest charge is that of price 200,000 alone
    ∷ case (charge 20000000 200000 12 10000 0) (some_yen 65753424657)
    ∷ case (charge 20000000 190000 12 10000 10000) (some_yen 65753424657)
    -- the two parts round apart: 1 lot at 61 and accrued 1 has value 30 and 0, not 31
    ∷ case (value 1 61 1) (some_yen 30)
    ∷ case (charge 1 61 12 10000 1) (some_yen 0)
    -- accrued above its range, and price and accrued above theirs together
    ∷ case (value 1 190001 10000) (no_yen 11)
    ∷ case (value 1 1 10001) (no_yen 11)
    ∷ case (value 1 0 5) (no_yen 11)
    ∷ []

-- before which units of P5, in their order, a unit ranks
abbrev pub ranked_before : ℕ → ℕ → List Bool
ranked_before a x = map (ranks_before unit_lots dues_p5 (account_lots a x)) (units unit_lots dues_p5)

-- the four cases
abbrev pub ranking_days : List Case
ranking_days =
    -- full ones of P5: account 2 has the largest net, then 1, then 3; one of 1 ranks before 3's and before all small ones
    case (ranked_before 1 100000) (false ∷ false ∷ false ∷ false ∷ true ∷ true ∷ true ∷ true ∷ [])
    -- small ones: 2 and 3 have 50,000 lots, and 2 is the lower account
    ∷ case (ranked_before 2 50000) (false ∷ false ∷ false ∷ false ∷ false ∷ false ∷ true ∷ true ∷ [])
    ∷ case (ranked_before 3 50000) (false ∷ false ∷ false ∷ false ∷ false ∷ false ∷ false ∷ true ∷ [])
    -- full ones of equal nets: the lower account
    ∷ case (ranks_before unit_lots (250000 ∷ 250000 ∷ []) (account_lots 0 100000) (account_lots 1 100000)) true
    ∷ case (ranks_before unit_lots (250000 ∷ 250000 ∷ []) (account_lots 1 100000) (account_lots 0 100000)) false
    -- how often P5's units have one: account 2 has two full ones, and one of 50,000
    ∷ case (times alike (account_lots 2 100000) units_p5) 2
    ∷ case (times alike (account_lots 2 50000) units_p5) 1
    ∷ []

-- the number that a ticket for unit 5 after P7 is refused by, where eight lifts stand and the count is 10
abbrev pub ninth_lift : ℕ → ℕ
ninth_lift n =
    first_no
    (commit_asks Settling 0 (λ i. units_p5) (545000 ∷ []) (8 ∷ 10 ∷ replicate 16 5) (ticket_for 0 5 (account_lots 2 50000) 0 n))

-- what the lifts of P5's units have, in these words of issue 0: at most eight, their places, none in Taking, the count
abbrev pub lifts_have : Phase → ℕ → List ℕ → List Bool
lifts_have phase d ws = lift_conditions phase units_p5 d ws 0

-- lifts
abbrev pub lifted_days : List Case
lifted_days =
    -- two lifts that cross: the second is of the order as the first left it
    case (lifted (lift_of 7 5 ∷ lift_of 7 6 ∷ []) units_p5)
    (account_lots 2 100000 ∷ account_lots 2 100000 ∷ account_lots 1 100000 ∷ account_lots 1 100000 ∷ account_lots 3 100000
    ∷ account_lots 1 30000 ∷ account_lots 3 50000 ∷ account_lots 2 50000 ∷ [])
    -- eight lifts and an old ticket: 17 is asked before 18
    ∷ case (ninth_lift 9 ∷ ninth_lift 10 ∷ []) (17 ∷ 18 ∷ [])
    -- two lifts after P7 (8 units, 5 of them handed, 545,000 delivered), and eight
    ∷ case (lifts_have Settling 545000 (2 ∷ 545002 ∷ 7 ∷ 5 ∷ 7 ∷ 5 ∷ [])) (true ∷ true ∷ true ∷ true ∷ [])
    ∷ case (lifts_have Settling 545000 (8 ∷ 10 ∷ replicate 16 5)) (true ∷ true ∷ true ∷ true ∷ [])
    -- nine
    ∷ case (lifts_have Settling 545000 (9 ∷ 10 ∷ replicate 16 0)) (false ∷ true ∷ true ∷ true ∷ [])
    -- a new place below the last one; one behind the old place; an old place where no unit is; a new one behind those handed
    ∷ case (lifts_have Settling 545000 (2 ∷ 4 ∷ 7 ∷ 5 ∷ 7 ∷ 4 ∷ [])) (true ∷ false ∷ true ∷ true ∷ [])
    ∷ case (lifts_have Settling 545000 (1 ∷ 3 ∷ 4 ∷ 5 ∷ [])) (true ∷ false ∷ true ∷ true ∷ [])
    ∷ case (lifts_have Settling 545000 (1 ∷ 3 ∷ 8 ∷ 5 ∷ [])) (true ∷ false ∷ true ∷ true ∷ [])
    ∷ case (lifts_have Settling 545000 (1 ∷ 3 ∷ 7 ∷ 6 ∷ [])) (true ∷ false ∷ true ∷ true ∷ [])
    -- a lift in Taking
    ∷ case (lifts_have Taking 0 (1 ∷ 1 ∷ 0 ∷ 0 ∷ [])) (true ∷ true ∷ false ∷ true ∷ [])
    -- a count above lots delivered plus lifts
    ∷ case (lifts_have Settling 545000 (2 ∷ 545003 ∷ 7 ∷ 5 ∷ 7 ∷ 5 ∷ [])) (true ∷ true ∷ true ∷ false ∷ [])
    ∷ []

-- 1 owes 4 lots of issue 0 to 0; issue 0 is marked
abbrev pub marked_nets : List ℤ
marked_nets = pos 4 ∷ negsuc 3 ∷ []

abbrev pub only_mark : List ℕ
only_mark = 1 ∷ []

-- a marked issue
abbrev pub even_days : List Case
even_days =
    -- odd lots are refused, after 7 and before 8 and 9; another issue takes them
    case
    (first_no (trade_asks Taking only_mark marked_nets 0 1 0 20000001) ∷ first_no (trade_asks Taking only_mark marked_nets 0 1 0 19999999)
    ∷ first_no (trade_asks Taking only_mark marked_nets 0 1 0 19999998) ∷ first_no (trade_asks Taking only_mark marked_nets 1 1 0 3) ∷ [])
    (7 ∷ 19 ∷ 8 ∷ 0 ∷ [])
    ∷ case
    (first_no (deliver_asks Settling only_mark marked_nets (0 ∷ 0 ∷ []) 0 1 5) ∷ first_no (deliver_asks Settling only_mark marked_nets (0 ∷ 0 ∷ []) 0 1 6)
    ∷ first_no (deliver_asks Settling only_mark marked_nets (0 ∷ 0 ∷ []) 0 1 4) ∷ [])
    (19 ∷ 9 ∷ 0 ∷ [])
    ∷ case
    (first_no (resolve_asks only_mark (fail 1 0 4 ∷ []) 0 1 5) ∷ first_no (resolve_asks only_mark (fail 1 0 4 ∷ []) 0 1 6)
    ∷ first_no (resolve_asks only_mark (fail 1 0 4 ∷ []) 0 1 4) ∷ [])
    (19 ∷ 9 ∷ 0 ∷ [])
    -- even nets and delivered lots; odd nets; odd delivered lots; both odd where the issue is not marked
    ∷ case
    (cells_even only_mark marked_nets (0 ∷ 2 ∷ []) 0 ∷ cells_even only_mark (pos 3 ∷ negsuc 2 ∷ []) (0 ∷ 2 ∷ []) 0
    ∷ cells_even only_mark marked_nets (0 ∷ 3 ∷ []) 0 ∷ cells_even [] (pos 3 ∷ negsuc 2 ∷ []) (0 ∷ 3 ∷ []) 0 ∷ [])
    (true ∷ false ∷ false ∷ true ∷ [])
    -- an entry of even lots, one of odd ones, and one of another issue
    ∷ case
    (entry_even only_mark (fail 1 2 4) ∷ entry_even only_mark (fail 1 2 3) ∷ entry_even only_mark (entry 1 1 2 3 0) ∷ [])
    (true ∷ false ∷ true ∷ [])
    ∷ []

unfoldable pub list_days : List Case
list_days = unit_days ++ issue_days ++ yen_days ++ ranking_days ++ lifted_days ++ even_days

-- each by computing what the definitions give
pub lists_settled : Holds list_days
unfolding list_days units ranks_before handovers partials lift lacks fails pairing value_of charge_of lift_conditions cells_even value charge
lists_settled =
    (refl, (refl, (refl, (refl, (refl, (refl, (refl, (refl, (refl, (refl, (refl, (refl, (refl, (refl, (refl, (refl, (refl, (refl, (refl, (refl, (refl, (refl, (refl, (refl, (refl, (refl, (refl, (refl, (refl, (refl, (refl, (refl, (refl, (refl, (refl, (refl, (refl, (refl, (refl, (refl, (refl, (refl, (refl, (refl, (refl, (refl, (refl, (refl, tt))))))))))))))))))))))))))))))))))))))))))))))))
