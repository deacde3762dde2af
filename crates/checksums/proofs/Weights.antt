-- The weighted sum grows with each word, and the exchange of two words moves the larger one to another weight: so it is
-- another where one word is changed, where two unlike words are exchanged, and where any words are lowered.
use mathlib.Core.Path.{◌≡◌, refl, sym, ap}
use mathlib.Core.Logic.{◌⊎◌, inl, inr, ⊎_elim}
use mathlib.Core.List.{List, [], ◌∷◌}
use Prim.Native.Nat.{ℕ, zero, suc, ◌+◌, ◌≤◌, ◌<◌, ◌/◌, ◌%◌}
use native.Mathlib.Omega.{arith}
use lib.ListN.{length, get_or, set}
use Rattle.checksums.specs.Sums.{weighted, word_size, exchanged, Under}
use Rattle.rules.specs.Measures.{sum}

three : (a b : ℕ) → (a < b) ⊎ ((b < a) ⊎ (b ≡ a))
three zero zero = inr (inr refl)
three zero (suc b) = inl (omega arith)
three (suc a) zero = inr (inl (omega arith))
three (suc a) (suc b) =
    ⊎_elim
    (λ (l : a < b). inl (omega arith))
    (⊎_elim (λ (l : b < a). inr (inl (omega arith))) (λ (l : b ≡ a). inr (inr (ap suc l))))
    (three a b)

-- One word

pub sum_set : (ws : List ℕ) (k w : ℕ) → k < length ws → sum (set ws k w) + get_or ws k 0 ≡ sum ws + w
sum_set [] k w h = absurd (omega arith)
sum_set (x ∷ xs) zero w h = omega arith
sum_set (x ∷ xs) (suc k) w h = omega (arith, sum_set xs k w (omega arith))

pub weighted_raised : (ws : List ℕ) (k w : ℕ) → k < length ws → get_or ws k 0 < w → weighted ws < weighted (set ws k w)
weighted_raised [] k w h l = absurd (omega arith)
weighted_raised (x ∷ xs) zero w h l = omega arith
weighted_raised (x ∷ xs) (suc k) w h l =
    omega (arith, sum_set xs k w (omega arith), weighted_raised xs k w (omega arith) l)

pub weighted_lowered : (ws : List ℕ) (k w : ℕ) → k < length ws → w < get_or ws k 0 → weighted (set ws k w) < weighted ws
weighted_lowered [] k w h l = absurd (omega arith)
weighted_lowered (x ∷ xs) zero w h l = omega arith
weighted_lowered (x ∷ xs) (suc k) w h l =
    omega (arith, sum_set xs k w (omega arith), weighted_lowered xs k w (omega arith) l)

-- a word is as it was where the weighted sum does not go with it
pub weighted_kept : (ws : List ℕ) (k w : ℕ) → k < length ws → (get_or ws k 0 < w → weighted (set ws k w) ≤ weighted ws) →
    (w < get_or ws k 0 → weighted ws ≤ weighted (set ws k w)) → w ≡ get_or ws k 0
weighted_kept ws k w h f g =
    ⊎_elim
    (λ (l : get_or ws k 0 < w). absurd (omega (arith, f l, weighted_raised ws k w h l)))
    (⊎_elim
    (λ (l : w < get_or ws k 0). absurd (omega (arith, g l, weighted_lowered ws k w h l)))
    (λ (l : w ≡ get_or ws k 0). l))
    (three (get_or ws k 0) w)

pub weighted_same : (ws : List ℕ) (k w : ℕ) → k < length ws → weighted (set ws k w) ≡ weighted ws → w ≡ get_or ws k 0
weighted_same ws k w h e = weighted_kept ws k w h (λ l. omega (arith, e)) (λ l. omega (arith, e))

-- Two words

pub sum_exchanged : (ws : List ℕ) (i j : ℕ) → i < length ws → j < length ws → sum (exchanged ws i j) ≡ sum ws
sum_exchanged [] i j h g = absurd (omega arith)
sum_exchanged (x ∷ xs) zero zero h g = refl
sum_exchanged (x ∷ xs) zero (suc j) h g = omega (arith, sum_set xs j x (omega arith))
sum_exchanged (x ∷ xs) (suc i) zero h g = omega (arith, sum_set xs i x (omega arith))
sum_exchanged (x ∷ xs) (suc i) (suc j) h g = omega (arith, sum_exchanged xs i j (omega arith) (omega arith))

pub weighted_exchanged : (ws : List ℕ) (i j : ℕ) → i < length ws → j < length ws →
    weighted (exchanged ws i j) ≡ weighted ws → get_or ws i 0 ≡ get_or ws j 0
weighted_exchanged [] i j h g e = absurd (omega arith)
weighted_exchanged (x ∷ xs) zero zero h g e = refl
weighted_exchanged (x ∷ xs) zero (suc j) h g e =
    weighted_same xs j x (omega arith) (omega (arith, e, sum_set xs j x (omega arith)))
weighted_exchanged (x ∷ xs) (suc i) zero h g e =
    sym (weighted_same xs i x (omega arith) (omega (arith, e, sum_set xs i x (omega arith))))
weighted_exchanged (x ∷ xs) (suc i) (suc j) h g e =
    weighted_exchanged xs i j (omega arith) (omega arith)
    (omega (arith, e, sum_exchanged xs i j (omega arith) (omega arith)))

-- the two halves are the number
pub halves_same : (x y : ℕ) → x % word_size ≡ y % word_size → x / word_size ≡ y / word_size → x ≡ y
halves_same x y l h = omega arith

-- Words lost: any number of them lowered

sum_under : (vs ws : List ℕ) → Under vs ws → sum vs ≤ sum ws
sum_under [] [] u = omega arith
sum_under [] (w ∷ ws) u = absurd u
sum_under (v ∷ vs) [] u = absurd u
sum_under (v ∷ vs) (w ∷ ws) u = omega (arith, u.0, sum_under vs ws u.1)

weighted_under : (vs ws : List ℕ) → Under vs ws → weighted vs ≤ weighted ws
weighted_under [] [] u = omega arith
weighted_under [] (w ∷ ws) u = absurd u
weighted_under (v ∷ vs) [] u = absurd u
weighted_under (v ∷ vs) (w ∷ ws) u = omega (arith, u.0, sum_under vs ws u.1, weighted_under vs ws u.1)

-- a list under another with the same weighted sum is that list
pub under_same : (vs ws : List ℕ) → Under vs ws → weighted vs ≡ weighted ws → vs ≡ ws
under_same [] [] u e = refl
under_same [] (w ∷ ws) u e = absurd u
under_same (v ∷ vs) [] u e = absurd u
under_same (v ∷ vs) (w ∷ ws) u e =
    let s = sum_under vs ws u.1 in
    let t = weighted_under vs ws u.1 in
    let h : v ≡ w = omega (arith, u.0, s, t, e) in
    let k : weighted vs ≡ weighted ws = omega (arith, u.0, s, t, e) in
    rw (h, under_same vs ws u.1 k)
