-- The same markets as they are found: the nets of all accounts but the last are chosen, and the last one follows. Nets are
-- counted from −m, as digits of 0 to 2 m.
use Rattle.std.specs.Prelude.{Bool, true, cond, ◌&&◌, List, [], ◌∷◌, ◌++◌, map, ℕ, zero, suc, ◌+◌, ◌-◌, ◌*◌, min, leb, ltb, ℤ}
use Rattle.rules.specs.Measures.{sum}
use Rattle.markets.specs.Markets.{choices, net_of, digits_at, list_count}

-- how many choices there are; the digits of choice t, which together are n × m; and is the last of them at most 2 m?
abbrev pub choice_count : ℕ → ℕ → ℕ
choice_count m zero = 1
choice_count m (suc k) = list_count (choices m) k

abbrev pub chosen : ℕ → ℕ → ℕ → List ℕ
chosen m zero t = []
chosen m (suc k) t = digits_at (choices m) k t ++ ((suc k * m - sum (digits_at (choices m) k t)) ∷ [])

abbrev pub follows : ℕ → ℕ → ℕ → Bool
follows m zero t = true
follows m (suc k) t =
    leb (sum (digits_at (choices m) k t)) (suc k * m) && ltb (suc k * m - sum (digits_at (choices m) k t)) (choices m)

abbrev pub nets_of : ℕ → List ℕ → List ℤ
nets_of m ds = map (net_of m) ds

-- the markets of the choices t, t + 1, .., so many of them
abbrev pub markets_from : ℕ → ℕ → ℕ → ℕ → List (List ℤ)
markets_from m n t zero = []
markets_from m n t (suc j) =
    cond (follows m n t) (nets_of m (chosen m n t) ∷ markets_from m n (suc t) j) (markets_from m n (suc t) j)

-- Fail entries of nets below a unit, in lots alone

-- lots laid against others in their order: how many parts they meet, and what they leave
abbrev pub meets : ℕ → List ℕ → ℕ
meets x [] = 0
meets x (y ∷ ys) = min 1 (min x y) + meets (x - y) ys

abbrev pub leaves : ℕ → List ℕ → List ℕ
leaves x [] = []
leaves x (y ∷ ys) = (y - x) ∷ leaves (x - y) ys

-- shortfalls laid in turn
abbrev pub entries_of : List ℕ → List ℕ → ℕ
entries_of [] ys = 0
entries_of (x ∷ xs) ys = meets x ys + entries_of xs (leaves x ys)

-- the larger of two stays, the smaller goes on
abbrev pub larger : ℕ → ℕ → ℕ
larger x y = cond (ltb x y) y x

abbrev pub put : ℕ → List ℕ → List ℕ
put x [] = x ∷ []
put x (y ∷ ys) = larger x y ∷ put (min x y) ys

abbrev pub falling : List ℕ → List ℕ
falling [] = []
falling (x ∷ xs) = put x (falling xs)

-- what is due by a digit, and what is owed
abbrev pub dues : ℕ → List ℕ → List ℕ
dues m ds = map (λ d. d - m) ds

abbrev pub oweds : ℕ → List ℕ → List ℕ
oweds m ds = map (λ d. m - d) ds
