-- Worked sums, as one list with one proof.
use Rattle.std.specs.Prelude.{refl, List, [], ◌∷◌}
use Rattle.rules.specs.Days.{Case, case, Holds}
use Rattle.checksums.specs.Sums.{weighted}

unfoldable pub worked_sums : List Case
worked_sums =
    -- once 5, twice 7, three times 1
    case (weighted (5 ∷ 7 ∷ 1 ∷ [])) 22
    -- two of them exchanged; one of them lost
    ∷ case (weighted (7 ∷ 5 ∷ 1 ∷ [])) 20
    ∷ case (weighted (5 ∷ 7 ∷ 0 ∷ [])) 19
    -- nothing is reduced
    ∷ case (weighted (4294967295 ∷ 4294967295 ∷ [])) 12884901885
    ∷ case (weighted []) 0
    ∷ []

-- each by computing what the definition gives
pub worked : Holds worked_sums
unfolding worked_sums
worked = (refl, (refl, (refl, (refl, (refl, tt)))))
