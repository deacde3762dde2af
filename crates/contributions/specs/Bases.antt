-- Base contributions, from averages and the factor. Amounts are in 100 million yen.
use Rattle.std.specs.Prelude.{cond, List, map, ℕ, ◌*◌, ◌/◌, leb, eqb}

-- funds are given, and bases rounded, in pieces of 5 billion yen
abbrev pub piece : ℕ
piece = 50

-- a product of an average and a factor in tenths is in tenths
abbrev pub piece_tenths : ℕ
piece_tenths = 500

-- 0 stays 0, above 0 up to 50 gives 50, above that down to a multiple of 50
abbrev pub rounded_down : ℕ → ℕ
rounded_down product = product / piece_tenths * piece

unfoldable pub base_of : ℕ → ℕ → ℕ
base_of average tenths =
    cond (eqb (average * tenths) 0) 0 (cond (leb (average * tenths) piece_tenths) piece (rounded_down (average * tenths)))

-- each participant's, at the place of its number
unfoldable pub bases_of : List ℕ → ℕ → List ℕ
bases_of averages tenths = map (λ a. base_of a tenths) averages
