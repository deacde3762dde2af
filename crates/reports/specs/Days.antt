-- Worked days of a fail inside a trust account, as one list with one proof.
use Rattle.std.specs.Prelude.{refl, List, [], ◌∷◌, ◌++◌, ℕ, suc, replicate, ℤ, pos, negsuc}
use Rattle.rules.specs.Days.{Case, case, Holds}
use Rattle.reports.specs.Reports.{Reports, reports, numbers, receipts, deliveries, eligible, size_of, eligible_lots}
use Rattle.reports.specs.Trust.{times, draw_right, facing, others, shares_of, TrustAnswer, answered, trust}

-- a lent output: the places beyond the reports show that they are kept
abbrev pub lent : List ℕ
lent = replicate 256 7

abbrev pub nine_reports : List ℕ → List ℕ → Reports
nine_reports subs earlier =
    reports subs (4 ∷ 5 ∷ 4 ∷ 6 ∷ 6 ∷ 4 ∷ 4 ∷ 6 ∷ 4 ∷ [])
    (pos 30000 ∷ negsuc 9999 ∷ pos 20000 ∷ negsuc 19999 ∷ pos 40000 ∷ pos 5000 ∷ pos 8000 ∷ negsuc 1999 ∷ pos 1000 ∷ [])
    earlier

-- sub-account 0 receives 30,000 and delivers 10,000; 1 receives and delivers 20,000; 2 receives 40,000, and 5,000 more with
-- an earlier fail; 3 receives 8,000; 4 receives 1,000, and delivers 2,000 with an earlier fail
abbrev pub day : Reports
day = nine_reports (0 ∷ 0 ∷ 1 ∷ 1 ∷ 2 ∷ 2 ∷ 3 ∷ 4 ∷ 4 ∷ []) (0 ∷ 0 ∷ 0 ∷ 0 ∷ 0 ∷ 1 ∷ 0 ∷ 1 ∷ 0 ∷ [])

abbrev pub drawn : List ℕ
drawn = 4 ∷ 8 ∷ 6 ∷ 1 ∷ 0 ∷ 5 ∷ 3 ∷ 2 ∷ 7 ∷ []

abbrev pub shared : List ℕ → TrustAnswer
shared shares = answered 0 (shares ++ replicate 247 7)

abbrev pub refused : ℕ → TrustAnswer
refused n = answered n lent

-- a day with one report
abbrev pub one_report : ℕ → ℕ → ℤ → Reports
one_report sub party lots = reports (sub ∷ []) (party ∷ []) (lots ∷ []) (0 ∷ [])

-- and one with so many of one lot each, and then one more: all but the last with an earlier fail
abbrev pub and_one_more : ℕ → Reports
and_one_more n =
    reports (replicate (suc n) 0) (replicate (suc n) 4) (replicate (suc n) (pos 1)) (replicate n 1 ++ (0 ∷ []))

unfoldable pub worked_days : List Case
worked_days =
    -- reports 8, 6 and 0 face account 4 and take all they can; 4 takes the rest
    case (trust day drawn 50000 4 lent) (shared (30000 ∷ 0 ∷ 0 ∷ 0 ∷ 11000 ∷ 0 ∷ 8000 ∷ 0 ∷ 1000 ∷ []))
    -- a fail that those facing it cover, in two draws
    ∷ case (trust day drawn 33000 4 lent) (shared (24000 ∷ 0 ∷ 0 ∷ 0 ∷ 0 ∷ 0 ∷ 8000 ∷ 0 ∷ 1000 ∷ []))
    ∷ case (trust day (0 ∷ 1 ∷ 2 ∷ 3 ∷ 4 ∷ 5 ∷ 6 ∷ 7 ∷ 8 ∷ []) 33000 4 lent) (shared (30000 ∷ 0 ∷ 0 ∷ 0 ∷ 0 ∷ 0 ∷ 3000 ∷ 0 ∷ 0 ∷ []))
    -- an account that none faces
    ∷ case (trust day drawn 40500 63 lent) (shared (0 ∷ 0 ∷ 0 ∷ 0 ∷ 40000 ∷ 0 ∷ 0 ∷ 0 ∷ 500 ∷ []))
    -- all eligible lots, and one more
    ∷ case (trust day drawn 79000 4 lent) (shared (30000 ∷ 0 ∷ 0 ∷ 0 ∷ 40000 ∷ 0 ∷ 8000 ∷ 0 ∷ 1000 ∷ []))
    ∷ case (trust day drawn 79001 4 lent) (refused 23)
    -- with no earlier fails 5 takes part, and 4 delivers more than it receives
    ∷ case (trust (nine_reports day.subs (replicate 9 0)) drawn 50000 4 lent)
    (shared (30000 ∷ 0 ∷ 0 ∷ 0 ∷ 7000 ∷ 5000 ∷ 8000 ∷ 0 ∷ 0 ∷ []))
    -- the refusals, in their order
    ∷ case (trust day [] 0 64 (replicate 255 7)) (answered 1 (replicate 255 7))
    ∷ case (trust day [] 0 64 lent) (refused 5)
    ∷ case (trust day [] 0 4 lent) (refused 7)
    ∷ case (trust day [] 20000001 4 lent) (refused 7)
    ∷ case (trust day (0 ∷ 1 ∷ 2 ∷ 3 ∷ 4 ∷ 5 ∷ 6 ∷ 7 ∷ 7 ∷ []) 50000 4 lent) (refused 21)
    ∷ case (trust day (0 ∷ 1 ∷ 2 ∷ 3 ∷ 4 ∷ 5 ∷ 6 ∷ 7 ∷ 8 ∷ 9 ∷ []) 50000 4 lent) (refused 21)
    -- a column of another length
    ∷ case (trust (nine_reports day.subs []) drawn 50000 4 lent) (refused 21)
    ∷ case (trust (nine_reports (32 ∷ 0 ∷ 1 ∷ 1 ∷ 2 ∷ 2 ∷ 3 ∷ 4 ∷ 4 ∷ []) day.earlier) drawn 79001 4 lent) (refused 22)
    -- each number at its edge and past it: the failing account, a counterparty, the lots of a receipt and of a delivery, a
    -- sub-account
    ∷ case (trust (one_report 31 63 (pos 20000000)) (0 ∷ []) 20000000 63 lent) (answered 0 (20000000 ∷ replicate 255 7))
    ∷ case (trust (one_report 31 63 (pos 20000000)) (0 ∷ []) 20000000 64 lent) (refused 5)
    ∷ case (trust (one_report 31 64 (pos 20000000)) (0 ∷ []) 20000000 63 lent) (refused 5)
    ∷ case (trust (one_report 31 63 (pos 20000001)) (0 ∷ []) 20000000 63 lent) (refused 7)
    ∷ case (trust (one_report 31 63 (negsuc 20000000)) (0 ∷ []) 20000000 63 lent) (refused 7)
    ∷ case (trust (one_report 31 63 (negsuc 19999999)) (0 ∷ []) 20000000 63 lent) (refused 23)
    ∷ case (trust (one_report 32 63 (pos 20000000)) (0 ∷ []) 20000000 63 lent) (refused 22)
    -- 256 reports; 257, each number once; and with one missing 21 comes first
    ∷ case (trust (and_one_more 255) (numbers 256) 1 4 lent) (answered 0 (replicate 255 0 ++ (1 ∷ [])))
    ∷ case (trust (and_one_more 256) (numbers 257) 1 4 lent) (refused 22)
    ∷ case (trust (and_one_more 256) (numbers 256) 1 4 lent) (refused 21)
    ∷ []

-- each by computing what the definitions give
pub worked : Holds worked_days
unfolding worked_days numbers receipts deliveries eligible size_of eligible_lots times draw_right facing others shares_of trust
worked =
    (refl, (refl, (refl, (refl, (refl, (refl, (refl, (refl, (refl, (refl, (refl, (refl, (refl, (refl, (refl, (refl, (refl, (refl, (refl, (refl, (refl, (refl, (refl, (refl, (refl, tt)))))))))))))))))))))))))
