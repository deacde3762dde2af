-- Sums over what is left of a list, and over report numbers.
use mathlib.Core.Path.{◌≡◌, refl, sym, ap, ◌∙◌}
use mathlib.Core.List.{List, [], ◌∷◌}
use Prim.Native.Nat.{ℕ, zero, suc, ◌+◌, ◌≤◌, ◌<◌}
use native.Mathlib.Numerals.{add-one}
use native.Mathlib.Nat.{zero-add, add-zero, add-suc, suc-add}
use lib.ListN.{length, drop, get_or, replicate, drop_of_length-le}
use lib.Seq.{drop-cons}
use native.Mathlib.Omega.{arith}
use Rattle.rules.specs.Measures.{total, sum}
use Rattle.rules.specs.Book.{tabulate}
use Rattle.reports.specs.Reports.{numbers}
use Rattle.laws.proofs.Basics.{length_tab, get_or_tab}

pub total_at {ℓ} : {A : Type ℓ} (f : A → ℕ) (l : List A) (i : ℕ) (d : A) → i < length l →
    total f (drop i l) ≡ f (get_or l i d) + total f (drop (i + 1) l)
total_at f l i d h = rw add-one (ap (total f) (drop-cons l i d h))

pub total_end {ℓ} : {A : Type ℓ} (f : A → ℕ) (l : List A) (i : ℕ) → length l ≤ i → total f (drop i l) ≡ 0
total_end f l i h = ap (total f) (drop_of_length-le l h)

pub zeros : (n k : ℕ) → ◌≡◌ {A = ℕ} (get_or (replicate n 0) k 0) 0
zeros zero k = refl
zeros (suc n) zero = refl
zeros (suc n) (suc k) = zeros n k

-- Report numbers: what is left of them from i on

pub length_numbers : (n : ℕ) → length (numbers n) ≡ n
unfolding numbers
length_numbers n = length_tab (λ k. k) 0 n

pub number_at : (n i : ℕ) → i < n → get_or (numbers n) i 0 ≡ i
unfolding numbers
number_at n i h = get_or_tab (λ k. k) 0 n i 0 h ∙ zero-add i

pub total_number : (f : ℕ → ℕ) (n i : ℕ) → i < n → total f (drop i (numbers n)) ≡ f i + total f (drop (i + 1) (numbers n))
total_number f n i h =
    total_at f (numbers n) i 0 (omega (arith, length_numbers n)) ∙ ap (λ k. f k + total f (drop (i + 1) (numbers n))) (number_at n i h)

pub total_numbers_end : (f : ℕ → ℕ) (n i : ℕ) → n ≤ i → total f (drop i (numbers n)) ≡ 0
total_numbers_end f n i h = total_end f (numbers n) i (omega (arith, length_numbers n))

-- a sum by numbers
sum_from : (xs : List ℕ) (f : ℕ → ℕ) (i : ℕ) → ((k : ℕ) → f (i + k) ≡ get_or xs k 0) → total f (tabulate (λ k. k) i (length xs)) ≡ sum xs
sum_from [] f i e = refl
sum_from (x ∷ xs) f i e =
    omega (arith, ap f (add-zero i), e 0, sum_from xs f (suc i) (λ k. ap f (suc-add i k ∙ sym (add-suc i k)) ∙ e (suc k)))

pub sum_numbers : (xs : List ℕ) → total (λ k. get_or xs k 0) (numbers (length xs)) ≡ sum xs
unfolding numbers
sum_numbers xs = sum_from xs (λ k. get_or xs k 0) 0 (λ k. ap (λ j. get_or xs j 0) (zero-add k))
