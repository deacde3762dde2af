-- Worked defaults, as one list with one proof. Amounts are in 100 million yen.
use Rattle.std.specs.Prelude.{refl, List, [], ◌∷◌, ◌++◌, ℕ, replicate}
use Rattle.rules.specs.Days.{Case, case, Holds}
use Rattle.contributions.specs.Bases.{base_of, bases_of}
use Rattle.contributions.specs.Order.{order_of}
use Rattle.contributions.specs.Rounds.{allotted}
use Rattle.contributions.specs.Funds.{numbered, shares_of, cleared, FundsAnswer, answered, bases, shares, funds}

-- a lent output, as it came
abbrev pub lent : List ℕ
lent = replicate 64 7

-- five participants: 1 and 3 have equal averages, 4 has none
abbrev pub averages : List ℕ
averages = 20 ∷ 60 ∷ 10 ∷ 60 ∷ 0 ∷ []

abbrev pub given : ℕ → ℕ → ℕ → ℕ → ℕ → FundsAnswer
given a b c d e = answered 0 (a ∷ b ∷ c ∷ d ∷ e ∷ replicate 59 0)

abbrev pub refused : ℕ → FundsAnswer
refused n = answered n lent

unfoldable pub worked_days : List Case
worked_days =
    -- 60 × 2.5 is 150, 20 × 2.5 is 50, 10 × 2.5 is 25: 50
    case (bases averages 25 lent) (given 50 150 50 150 0)
    -- 60 × 2.4 is 144, down to 100; 20 × 2.4 is 48, up to 50
    ∷ case (bases averages 24 lent) (given 50 100 50 100 0)
    ∷ case (bases averages 0 lent) (given 0 0 0 0 0)
    -- 5 tenths of 100 are 50, and 101 × 0.5 is above it
    ∷ case (bases (100 ∷ 101 ∷ 200 ∷ 199 ∷ 1 ∷ []) 5 lent) (given 50 50 100 50 50)
    -- the larger averages first, of the equal ones the lower number; the last fraction to the next in order
    ∷ case (funds averages 25 49 lent) (given 0 49 0 0 0)
    ∷ case (funds averages 25 110 lent) (given 10 50 0 50 0)
    ∷ case (funds averages 25 230 lent) (given 50 80 50 50 0)
    -- 0 and 2 are full: what is left goes to 1 and 3
    ∷ case (funds averages 25 399 lent) (given 50 150 50 149 0)
    ∷ case (funds averages 25 400 lent) (given 50 150 50 150 0)
    ∷ case (funds averages 25 0 lent) (given 0 0 0 0 0)
    -- given bases that are no multiples of 50: a full one is passed over
    ∷ case (shares averages (70 ∷ 30 ∷ 10 ∷ 200 ∷ 5 ∷ []) 150 lent) (given 50 30 10 55 5)
    ∷ case (shares averages (70 ∷ 30 ∷ 10 ∷ 200 ∷ 5 ∷ []) 315 lent) (given 70 30 10 200 5)
    -- the refusals, in their order
    ∷ case (shares averages (70 ∷ 30 ∷ 10 ∷ 200 ∷ 5 ∷ []) 316 lent) (refused 25)
    ∷ case (shares averages (70 ∷ 30 ∷ 10 ∷ 200 ∷ []) 1 lent) (refused 24)
    ∷ case (shares (1000001 ∷ []) (0 ∷ []) 1 lent) (refused 24)
    ∷ case (funds averages 25 401 lent) (refused 25)
    ∷ case (funds averages 25 1000001 lent) (refused 24)
    ∷ case (funds averages 1000001 1 lent) (refused 24)
    ∷ case (bases (replicate 65 0) 25 lent) (refused 24)
    -- no participants at all
    ∷ case (funds [] 25 0 lent) (answered 0 (replicate 64 0))
    ∷ case (funds [] 25 1 lent) (refused 25)
    ∷ []

-- each by computing what the definitions give
pub worked : Holds worked_days
unfolding worked_days base_of bases_of order_of allotted numbered shares_of cleared bases shares funds
worked =
    (refl, (refl, (refl, (refl, (refl, (refl, (refl, (refl, (refl, (refl, (refl, (refl, (refl, (refl, (refl, (refl, (refl, (refl, (refl, (refl, (refl, tt)))))))))))))))))))))
