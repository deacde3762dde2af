-- n words and their checksum behind them: with one of all these words changed, with two unlike ones exchanged, or with
-- some of the n lowered, the checksum no longer holds.
use mathlib.Core.Path.{◌≡◌, refl, sym, ap, subst, subst⁻¹, ◌∙◌}
use mathlib.Core.Logic.{◌⊎◌, inl, inr, ⊎_elim}
use mathlib.Core.Bool.{true}
use mathlib.Core.List.{List}
use Prim.Native.Nat.{ℕ, zero, suc, ◌+◌, ◌*◌, ◌<◌}
use native.Mathlib.Omega.{arith}
use borrow.Author.Tests.{eqb-true, eq-eqb}
use lib.ListN.{length, get_or, set, take, length-set}
use lib.Seq.{length-take-le, get_or-take, get_or-set_same, get_or-set_other, take-set-le, take-set-lt, set_comm}
use Rattle.checksums.specs.Sums.{word_size, weighted, exchanged, Under}
use Rattle.checksums.proofs.Weights.{weighted_kept, weighted_same, weighted_exchanged, under_same}
use Rattle.journals.specs.Record.{checks}

abbrev pub Summed : ℕ → List ℕ → Type 0
Summed n ws = weighted (take n ws) ≡ get_or ws n 0 + word_size * get_or ws (suc n) 0

pub is_summed : (n : ℕ) (ws : List ℕ) → checks n ws ≡ true → Summed n ws
unfolding checks
is_summed n ws e = eqb-true (weighted (take n ws)) (get_or ws n 0 + word_size * get_or ws (suc n) 0) e

pub summed_checks : (n : ℕ) (ws : List ℕ) → Summed n ws → checks n ws ≡ true
unfolding checks
summed_checks n ws e = eq-eqb (weighted (take n ws)) (get_or ws n 0 + word_size * get_or ws (suc n) 0) e

-- a word of n + 2 is one of the n, or the first or second half of the checksum
place : (n i : ℕ) → i < 2 + n → (i < n) ⊎ ((i ≡ n) ⊎ (i ≡ suc n))
place zero zero h = inr (inl refl)
place zero (suc zero) h = inr (inr refl)
place zero (suc (suc i)) h = absurd (omega arith)
place (suc n) zero h = inl (omega arith)
place (suc n) (suc i) h =
    ⊎_elim
    (λ (l : i < n). inl (omega arith))
    (⊎_elim (λ (e : i ≡ n). inr (inl (ap suc e))) (λ (e : i ≡ suc n). inr (inr (ap suc e))))
    (place n i (omega arith))

by_place : (n : ℕ) (P : ℕ → Type 0) → ((i : ℕ) → i < n → P i) → P n → P (suc n) → (i : ℕ) → i < 2 + n → P i
by_place n P f l u i h =
    ⊎_elim
    (λ (k : i < n). f i k)
    (⊎_elim (λ (e : i ≡ n). subst⁻¹ P e l) (λ (e : i ≡ suc n). subst⁻¹ P e u))
    (place n i h)

module _ (n : ℕ) (ws : List ℕ) (long : length ws ≡ 2 + n) (s : Summed n ws) where
  front : length (take n ws) ≡ n
  front = length-take-le n ws (omega arith)

  -- a word of the n does not reach the checksum, and a word of the checksum not the n
  low_other : (i w : ℕ) → (n ≡ i → ⊥) → get_or (set ws i w) n 0 ≡ get_or ws n 0
  low_other i w d = get_or-set_other ws i n w 0 d

  high_other : (i w : ℕ) → (suc n ≡ i → ⊥) → get_or (set ws i w) (suc n) 0 ≡ get_or ws (suc n) 0
  high_other i w d = get_or-set_other ws i (suc n) w 0 d

  -- One word

  in_front : (i w : ℕ) → i < n → Summed n (set ws i w) → w ≡ get_or ws i 0
  in_front i w h t =
      let l = low_other i w (λ e. omega (arith, e)) in
      let u = high_other i w (λ e. omega (arith, e)) in
      let e : weighted (take n (set ws i w)) ≡ weighted (take n ws) = omega (arith, t, l, u, s) in
      weighted_same (take n ws) i w (omega (arith, front)) (ap weighted (sym (take-set-lt n ws i w h)) ∙ e)
      ∙ get_or-take n ws i 0 h

  low_half : (w : ℕ) → Summed n (set ws n w) → w ≡ get_or ws n 0
  low_half w t =
      let l : get_or (set ws n w) n 0 ≡ w = get_or-set_same ws n w 0 (omega arith) in
      let u = high_other n w (λ e. omega (arith, e)) in
      let e : weighted (take n (set ws n w)) ≡ weighted (take n ws) = ap weighted (take-set-le n ws n w (omega arith)) in
      omega (arith, t, l, u, e, s)

  high_half : (w : ℕ) → Summed n (set ws (suc n) w) → w ≡ get_or ws (suc n) 0
  high_half w t =
      let l = low_other (suc n) w (λ e. omega (arith, e)) in
      let u : get_or (set ws (suc n) w) (suc n) 0 ≡ w = get_or-set_same ws (suc n) w 0 (omega arith) in
      let e : weighted (take n (set ws (suc n) w)) ≡ weighted (take n ws) = ap weighted (take-set-le n ws (suc n) w (omega arith)) in
      omega (arith, t, l, u, e, s)

  -- a word that was put stood there before
  pub one_kept : (i w : ℕ) → i < 2 + n → Summed n (set ws i w) → w ≡ get_or ws i 0
  one_kept i w =
      by_place n (λ k. Summed n (set ws k w) → w ≡ get_or ws k 0) (λ k h. in_front k w h) (low_half w) (high_half w) i

  -- Two words

  abbrev Alike : ℕ → ℕ → Type 0
  Alike i j = Summed n (exchanged ws i j) → get_or ws i 0 ≡ get_or ws j 0

  turned : (i j : ℕ) → (i ≡ j → ⊥) → Alike i j → Alike j i
  turned i j d f t =
      sym (f (subst (Summed n) (set_comm ws j i (get_or ws i 0) (get_or ws j 0) (λ e. d (sym e))) t))

  both_front : (i j : ℕ) → i < n → j < n → Alike i j
  both_front i j h g t =
      let v = get_or ws j 0 in
      let w = get_or ws i 0 in
      let a : get_or (exchanged ws i j) n 0 ≡ get_or ws n 0 =
      get_or-set_other (set ws i v) j n w 0 (λ e. omega (arith, e)) ∙ low_other i v (λ e. omega (arith, e)) in
      let b : get_or (exchanged ws i j) (suc n) 0 ≡ get_or ws (suc n) 0 =
      get_or-set_other (set ws i v) j (suc n) w 0 (λ e. omega (arith, e)) ∙ high_other i v (λ e. omega (arith, e)) in
      let p = get_or-take n ws i 0 h in
      let q = get_or-take n ws j 0 g in
      let c : take n (exchanged ws i j) ≡ exchanged (take n ws) i j =
      take-set-lt n (set ws i v) j w g ∙ ap (λ l. set l j w) (take-set-lt n ws i v h) ∙ rw (p, q) in
      let e : weighted (take n (exchanged ws i j)) ≡ weighted (take n ws) = omega (arith, t, a, b, s) in
      sym p
      ∙ weighted_exchanged (take n ws) i j (omega (arith, front)) (omega (arith, front)) (ap weighted (sym c) ∙ e)
      ∙ q

  -- a word of the n in the place of one of the checksum: the sum and the checksum move against each other
  front_low : (i : ℕ) → i < n → Alike i n
  front_low i h t =
      let v = get_or ws n 0 in
      let w = get_or ws i 0 in
      let p = get_or-take n ws i 0 h in
      let a : get_or (exchanged ws i n) n 0 ≡ w = get_or-set_same (set ws i v) n w 0 (omega (arith, length-set ws i v)) in
      let b : get_or (exchanged ws i n) (suc n) 0 ≡ get_or ws (suc n) 0 =
      get_or-set_other (set ws i v) n (suc n) w 0 (λ e. omega (arith, e)) ∙ high_other i v (λ e. omega (arith, e)) in
      let c : weighted (take n (exchanged ws i n)) ≡ weighted (set (take n ws) i v) =
      ap weighted (take-set-le n (set ws i v) n w (omega arith) ∙ take-set-lt n ws i v h) in
      sym p
      ∙ sym (weighted_kept (take n ws) i v (omega (arith, front)) (λ k. omega (arith, t, a, b, c, s, p, k)) (λ k. omega (arith, t, a, b, c, s, p, k)))

  front_high : (i : ℕ) → i < n → Alike i (suc n)
  front_high i h t =
      let v = get_or ws (suc n) 0 in
      let w = get_or ws i 0 in
      let p = get_or-take n ws i 0 h in
      let a : get_or (exchanged ws i (suc n)) n 0 ≡ get_or ws n 0 =
      get_or-set_other (set ws i v) (suc n) n w 0 (λ e. omega (arith, e)) ∙ low_other i v (λ e. omega (arith, e)) in
      let b : get_or (exchanged ws i (suc n)) (suc n) 0 ≡ w = get_or-set_same (set ws i v) (suc n) w 0 (omega (arith, length-set ws i v)) in
      let c : weighted (take n (exchanged ws i (suc n))) ≡ weighted (set (take n ws) i v) =
      ap weighted (take-set-le n (set ws i v) (suc n) w (omega arith) ∙ take-set-lt n ws i v h) in
      sym p
      ∙ sym (weighted_kept (take n ws) i v (omega (arith, front)) (λ k. omega (arith, t, a, b, c, s, p, k)) (λ k. omega (arith, t, a, b, c, s, p, k)))

  low_high : Alike n (suc n)
  low_high t =
      let v = get_or ws (suc n) 0 in
      let w = get_or ws n 0 in
      let a : get_or (exchanged ws n (suc n)) n 0 ≡ v =
      get_or-set_other (set ws n v) (suc n) n w 0 (λ e. omega (arith, e)) ∙ get_or-set_same ws n v 0 (omega arith) in
      let b : get_or (exchanged ws n (suc n)) (suc n) 0 ≡ w = get_or-set_same (set ws n v) (suc n) w 0 (omega (arith, length-set ws n v)) in
      let c : weighted (take n (exchanged ws n (suc n))) ≡ weighted (take n ws) =
      ap weighted (take-set-le n (set ws n v) (suc n) w (omega arith) ∙ take-set-le n ws n v (omega arith)) in
      omega (arith, t, a, b, c, s)

  -- words that were exchanged were alike
  pub two_kept : (i j : ℕ) → i < 2 + n → j < 2 + n → Summed n (exchanged ws i j) → get_or ws i 0 ≡ get_or ws j 0
  two_kept i j h g =
      by_place n (λ k. Alike k j)
      (λ k l. by_place n (λ m. Alike k m) (λ m r. both_front k m l r) (front_low k l) (front_high k l) j g)
      (by_place n (λ m. Alike n m) (λ m r. turned m n (λ e. omega (arith, e)) (front_low m r)) (λ t. refl) low_high j g)
      (by_place n (λ m. Alike (suc n) m) (λ m r. turned m (suc n) (λ e. omega (arith, e)) (front_high m r))
      (turned n (suc n) (λ e. omega (arith, e)) low_high) (λ t. refl) j g) i h

-- Words lowered under the same checksum are as they were
pub lowered_same : (n : ℕ) (vs ws : List ℕ) → Summed n vs → Summed n ws → Under (take n vs) (take n ws) →
    get_or vs n 0 ≡ get_or ws n 0 → get_or vs (suc n) 0 ≡ get_or ws (suc n) 0 → take n vs ≡ take n ws
lowered_same n vs ws s t u l h = under_same (take n vs) (take n ws) u (omega (arith, s, t, l, h))
