-- All nets of n accounts, each within ±m, summing to 0, in rising order: the first account compared first, most negative first.
use Rattle.std.specs.Prelude.{◌≡◌, Bool, true, false, cond, ◌⊎◌, List, [], ◌∷◌, ◌++◌, map, ℕ, zero, suc, ◌+◌, ◌*◌, ◌/◌, ◌%◌, ◌≤◌, ltb, length, ℤ, pos, nat_abs, ◌-ℤ◌}
use Rattle.rules.specs.Measures.{Every, due_of, owed_of}
use Rattle.rules.specs.Book.{tabulate, balanced}

-- n is 0 to 5, m is 0 to 4
abbrev pub most_accounts : ℕ
most_accounts = 5

abbrev pub most_net : ℕ
most_net = 4

-- What a market is

pub record Market (n m : ℕ) (v : List ℤ) : Type 0 where
  pub accounts : length v ≡ n
  pub within : Every (λ x. nat_abs x ≤ m) v
  pub zero : balanced v ≡ true

-- a net below another: its due and the other's owed are less than the other's due and its own owed
abbrev pub below : ℤ → ℤ → Bool
below x y = ltb (due_of x + owed_of y) (due_of y + owed_of x)

-- nets before others: the first account compared first
abbrev pub before : List ℤ → List ℤ → Bool
before [] ys = false
before (x ∷ xs) [] = false
before (x ∷ xs) (y ∷ ys) = cond (below x y) true (cond (below y x) false (before xs ys))

-- rising: each before all later ones
abbrev pub Rising : List (List ℤ) → Type 0
Rising [] = Unit {0}
Rising (v ∷ vs) = Every (λ w. before v w ≡ true) vs × Rising vs

-- a list has this element
abbrev pub Has : List (List ℤ) → List ℤ → Type 0
Has [] x = ⊥
Has (y ∷ ys) x = (x ≡ y) ⊎ Has ys x

-- All of them

-- a net is one of −m .. m: the k-th of so many
abbrev pub choices : ℕ → ℕ
choices m = 2 * m + 1

abbrev pub net_of : ℕ → ℕ → ℤ
net_of m k = pos k -ℤ pos m

-- the digits of t, n of them, each below c: the last account's is the last one; and how many such numbers there are
abbrev pub digits_at : ℕ → ℕ → ℕ → List ℕ
digits_at c zero t = []
digits_at c (suc n) t = digits_at c n (t / c) ++ (t % c ∷ [])

abbrev pub list_count : ℕ → ℕ → ℕ
list_count c zero = 1
list_count c (suc n) = list_count c n * c

-- list t of n nets within ±m
abbrev pub nets_at : ℕ → ℕ → ℕ → List ℤ
nets_at m n t = map (net_of m) (digits_at (choices m) n t)

-- those of a list that pass
abbrev pub those {ℓ} : {A : Type ℓ} → (A → Bool) → List A → List A
those p [] = []
those p (x ∷ xs) = cond (p x) (x ∷ those p xs) (those p xs)

-- of all lists those that sum to 0
unfoldable pub markets : ℕ → ℕ → List (List ℤ)
markets n m = those balanced (tabulate (nets_at m n) 0 (list_count (choices m) n))
