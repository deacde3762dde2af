-- Rounds give each participant, in the order, 50 up to its base; the last fraction goes to the next whose base is not full.
use Rattle.std.specs.Prelude.{cond, List, [], ◌∷◌, map, ℕ, zero, suc, ◌+◌, ◌-◌, min, eqb, length, replicate}
use Rattle.contributions.specs.Bases.{piece}
use Rattle.contributions.specs.Order.{amount_of}

-- 50, up to the base, and no more than is left: so the last fraction is what is left
abbrev pub gets : ℕ → ℕ → ℕ → ℕ
gets base share left = min piece (min (base - share) left)

-- a round along bases and shares in the order: the shares after it, and what it leaves
abbrev pub round : ℕ → List ℕ → List ℕ → List ℕ
round left [] ss = ss
round left (b ∷ bs) [] = []
round left (b ∷ bs) (s ∷ ss) = (s + gets b s left) ∷ round (left - gets b s left) bs ss

abbrev pub left_over : ℕ → List ℕ → List ℕ → ℕ
left_over left [] ss = left
left_over left (b ∷ bs) [] = left
left_over left (b ∷ bs) (s ∷ ss) = left_over (left - gets b s left) bs ss

-- rounds until nothing is left, n at most
abbrev pub rounds : ℕ → ℕ → List ℕ → List ℕ → List ℕ
rounds zero left bs ss = ss
rounds (suc n) left bs ss = cond (eqb left 0) ss (rounds n (left_over left bs ss) bs (round left bs ss))

-- from nothing given; a round gives one at least while a base is not full, so there are no more rounds than funds
unfoldable pub allotted : List ℕ → ℕ → List ℕ
allotted bs funds = rounds funds funds bs (replicate (length bs) 0)

-- bases by number, in an order
abbrev pub in_order : List ℕ → List ℕ → List ℕ
in_order bases order = map (amount_of bases) order
