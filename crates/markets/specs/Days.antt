-- Worked numbers of small markets, as one list with one proof.
use Rattle.std.specs.Prelude.{refl, List, [], ◌∷◌, length, replicate, pos, negsuc}
use Rattle.rules.specs.Units.{units}
use Rattle.rules.specs.Fails.{fails, lacks}
use Rattle.rules.specs.Days.{Case, case, Holds}
use Rattle.markets.specs.Markets.{markets}
use Rattle.markets.specs.Counts.{fails_of, eligible, counts_of}
use Rattle.markets.specs.Answers.{listed, all_markets, counted, market_fails}

unfoldable pub worked_days : List Case
worked_days =
    -- for n = 4 and m = 1 there are 19
    case (length (markets 4 1)) 19
    -- the first account compared first, most negative first
    ∷ case (markets 2 1) ((negsuc 0 ∷ pos 1 ∷ []) ∷ (pos 0 ∷ pos 0 ∷ []) ∷ (pos 1 ∷ negsuc 0 ∷ []) ∷ [])
    ∷ case (length (markets 3 2)) 19
    -- no accounts: one market, of no places; and nets of 0 alone
    ∷ case (markets 0 4) ([] ∷ [])
    ∷ case (markets 3 0) ((pos 0 ∷ pos 0 ∷ pos 0 ∷ []) ∷ [])
    ∷ case (markets 1 4) ((pos 0 ∷ []) ∷ [])
    -- nothing delivered; then account 0's two lots; then lots that no market owes
    ∷ case (counts_of 4 1 (0 ∷ 0 ∷ 0 ∷ 0 ∷ [])) (1 ∷ 12 ∷ 6 ∷ 0 ∷ 0 ∷ [])
    ∷ case (counts_of 3 2 (2 ∷ 0 ∷ 0 ∷ [])) (3 ∷ 0 ∷ 0 ∷ 0 ∷ 0 ∷ [])
    ∷ case (counts_of 3 2 (1 ∷ 0 ∷ 0 ∷ [])) (2 ∷ 5 ∷ 0 ∷ 0 ∷ 0 ∷ [])
    ∷ case (market_fails 3 2 (3 ∷ 0 ∷ 0 ∷ [])) (counted 0 (0 ∷ 0 ∷ 0 ∷ 0 ∷ 0 ∷ []))
    ∷ case (market_fails 0 4 []) (counted 0 (1 ∷ 0 ∷ 0 ∷ 0 ∷ 0 ∷ []))
    -- larger n or m, or a list of another length
    ∷ case (market_fails 6 4 (replicate 6 0)) (counted 7 (0 ∷ 0 ∷ 0 ∷ 0 ∷ 0 ∷ []))
    ∷ case (market_fails 3 5 (replicate 3 0)) (counted 7 (0 ∷ 0 ∷ 0 ∷ 0 ∷ 0 ∷ []))
    ∷ case (market_fails 3 4 (replicate 2 0)) (counted 7 (0 ∷ 0 ∷ 0 ∷ 0 ∷ 0 ∷ []))
    -- a lent output of too few places, asked first
    ∷ case (all_markets 2 1 (replicate 6 (pos 7))) (listed 1 0 (replicate 6 (pos 7)))
    ∷ case (all_markets 6 5 []) (listed 1 0 [])
    ∷ []

-- each by computing what the definitions give
pub worked : Holds worked_days
unfolding worked_days markets fails_of eligible counts_of all_markets market_fails units fails lacks
worked =
    (refl, (refl, (refl, (refl, (refl, (refl, (refl, (refl, (refl, (refl, (refl, (refl, (refl, (refl, (refl, (refl, tt))))))))))))))))
