-- A sealed list of words with one word changed, or with two unlike words exchanged, is no sealed list; nor is one with any
-- words of its body lowered, and the checksum as it was.
use mathlib.Core.Path.{◌≡◌, refl, sym, ap, ◌∙◌, subst}
use mathlib.Core.List.{List}
use Prim.Native.Nat.{ℕ, zero, suc, ◌<◌, ◌/◌, ◌%◌}
use native.Mathlib.Omega.{arith}
use lib.ListN.{length, get_or, set, drop}
use Rattle.checksums.specs.Sums.{weighted, word_size, exchanged, Under}
use Rattle.checksums.proofs.Weights.{weighted_kept, weighted_same, weighted_exchanged, halves_same, under_same}
use Rattle.snapshots.specs.Snapshot.{seal}

module _ (b c : List ℕ) where
  low : {ws : List ℕ} → ws ≡ seal c → get_or ws 1 0 ≡ weighted c % word_size
  low e = ap (λ l. get_or l 1 0) e

  high : {ws : List ℕ} → ws ≡ seal c → get_or ws 2 0 ≡ weighted c / word_size
  high e = ap (λ l. get_or l 2 0) e

  -- sealed words that are sealed with one word w at i: it stood there
  pub seal_set : (i w : ℕ) → i < length (seal b) → set (seal b) i w ≡ seal c → w ≡ get_or (seal b) i 0
  seal_set zero w h e = ap (λ l. get_or l 0 0) e
  seal_set (suc zero) w h e = low e ∙ ap (λ l. weighted l % word_size) (sym (ap (drop 3) e))
  seal_set (suc (suc zero)) w h e = high e ∙ ap (λ l. weighted l / word_size) (sym (ap (drop 3) e))
  seal_set (suc (suc (suc k))) w h e =
      weighted_same b k w (omega arith)
      (ap weighted (ap (drop 3) e) ∙ sym (halves_same (weighted b) (weighted c) (low e) (high e)))

  -- a word of the body in the place of one of the checksum, and the other way round
  low_moved : (k : ℕ) → k < length b → exchanged (seal b) 1 (suc (suc (suc k))) ≡ seal c → weighted b % word_size ≡ get_or b k 0
  low_moved k h e =
      let v = weighted b % word_size in
      let s : weighted (set b k v) ≡ weighted c = ap weighted (ap (drop 3) e) in
      let l : get_or b k 0 ≡ weighted c % word_size = low e in
      let u : weighted b / word_size ≡ weighted c / word_size = high e in
      weighted_kept b k v h (λ t. omega (arith, s, l, u, t)) (λ t. omega (arith, s, l, u, t))

  high_moved : (k : ℕ) → k < length b → exchanged (seal b) 2 (suc (suc (suc k))) ≡ seal c → weighted b / word_size ≡ get_or b k 0
  high_moved k h e =
      let v = weighted b / word_size in
      let s : weighted (set b k v) ≡ weighted c = ap weighted (ap (drop 3) e) in
      let l : weighted b % word_size ≡ weighted c % word_size = low e in
      let u : get_or b k 0 ≡ weighted c / word_size = high e in
      weighted_kept b k v h (λ t. omega (arith, s, l, u, t)) (λ t. omega (arith, s, l, u, t))

  -- sealed words that are sealed with the words at i and j exchanged: the two are alike
  pub seal_exchanged : (i j : ℕ) → i < length (seal b) → j < length (seal b) → exchanged (seal b) i j ≡ seal c →
      get_or (seal b) i 0 ≡ get_or (seal b) j 0
  seal_exchanged zero zero h g e = refl
  seal_exchanged zero (suc j) h g e = sym (ap (λ l. get_or l 0 0) e)
  seal_exchanged (suc i) zero h g e = ap (λ l. get_or l 0 0) e
  seal_exchanged (suc zero) (suc zero) h g e = refl
  seal_exchanged (suc zero) (suc (suc zero)) h g e = sym (low e ∙ ap (λ l. weighted l % word_size) (sym (ap (drop 3) e)))
  seal_exchanged (suc zero) (suc (suc (suc k))) h g e = low_moved k (omega arith) e
  seal_exchanged (suc (suc zero)) (suc zero) h g e = low e ∙ ap (λ l. weighted l % word_size) (sym (ap (drop 3) e))
  seal_exchanged (suc (suc zero)) (suc (suc zero)) h g e = refl
  seal_exchanged (suc (suc zero)) (suc (suc (suc k))) h g e = high_moved k (omega arith) e
  seal_exchanged (suc (suc (suc k))) (suc zero) h g e = sym (low_moved k (omega arith) e)
  seal_exchanged (suc (suc (suc k))) (suc (suc zero)) h g e = sym (high_moved k (omega arith) e)
  seal_exchanged (suc (suc (suc i))) (suc (suc (suc j))) h g e =
      weighted_exchanged b i j (omega arith) (omega arith)
      (ap weighted (ap (drop 3) e) ∙ sym (halves_same (weighted b) (weighted c) (low e) (high e)))

-- the same of words that are a sealed body
module _ (b c ws : List ℕ) (s : seal b ≡ ws) where
  pub sealed_set : (i w : ℕ) → i < length ws → set ws i w ≡ seal c → w ≡ get_or ws i 0
  sealed_set i w = subst (λ (l : List ℕ). i < length l → set l i w ≡ seal c → w ≡ get_or l i 0) s (seal_set b c i w)

  pub sealed_exchanged : (i j : ℕ) → i < length ws → j < length ws → exchanged ws i j ≡ seal c → get_or ws i 0 ≡ get_or ws j 0
  sealed_exchanged i j =
      subst
      (λ (l : List ℕ). i < length l → j < length l → exchanged l i j ≡ seal c → get_or l i 0 ≡ get_or l j 0)
      s
      (seal_exchanged b c i j)

-- sealed bodies under each other with the same checksum are one
pub seal_under : (b c : List ℕ) → Under c b → get_or (seal c) 1 0 ≡ get_or (seal b) 1 0 → get_or (seal c) 2 0 ≡ get_or (seal b) 2 0 → c ≡ b
seal_under b c u l h = under_same c b u (halves_same (weighted c) (weighted b) l h)
