-- Markets by their fail entries after cutoff, for a list of delivered lots.
use Rattle.std.specs.Prelude.{cond, List, map, ℕ, eqb, length, ℤ}
use Rattle.rules.specs.Measures.{unit_lots, total, owed_of}
use Rattle.rules.specs.Units.{units_of_nets}
use Rattle.rules.specs.Fails.{Fail, fails}
use Rattle.rules.specs.Book.{tabulate, within_owed}
use Rattle.markets.specs.Markets.{those, markets}

-- 0 to 4 fail entries
abbrev pub count_places : ℕ
count_places = 5

-- the fails of a market with these lots delivered: document 01's own order, handover and fails, on its n accounts
unfoldable pub fails_of : List ℕ → List ℤ → List Fail
fails_of delivered nets = fails unit_lots (units_of_nets unit_lots nets) (map owed_of nets) delivered

-- the markets in which each account owes at least its lots
unfoldable pub eligible : ℕ → ℕ → List ℕ → List (List ℤ)
eligible n m delivered = those (λ v. within_owed v delivered) (markets n m)

-- 1 for a market with k fail entries
abbrev pub with_entries : List ℕ → ℕ → List ℤ → ℕ
with_entries delivered k v = cond (eqb (length (fails_of delivered v)) k) 1 0

-- how many of a list of markets have 0, 1, 2, 3, 4 fail entries
abbrev pub by_entries : List ℕ → List (List ℤ) → List ℕ
by_entries delivered vs = tabulate (λ k. total (with_entries delivered k) vs) 0 count_places

unfoldable pub counts_of : ℕ → ℕ → List ℕ → List ℕ
counts_of n m delivered = by_entries delivered (eligible n m delivered)
