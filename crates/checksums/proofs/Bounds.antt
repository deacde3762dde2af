-- What the loop of the checksum needs: the sums of the words behind a place, and that they fit 64 bits.
use mathlib.Core.Path.{◌≡◌, refl, sym, ap, ◌∙◌}
use mathlib.Core.Bool.{Bool, true}
use mathlib.Core.List.{List, [], ◌∷◌, ◌++◌, append_assoc, append-nil}
use Prim.Native.Nat.{ℕ, zero, suc, ◌+◌, ◌*◌, ◌≤◌, ◌<◌}
use native.Mathlib.Omega.{arith}
use borrow.Author.Tests.{ltb-true, lt-ltb}
use lib.ListN.{length, get_or, drop, length-append}
use Rattle.rules.specs.Measures.{sum}
use Rattle.rules.specs.Book.{all}
use Rattle.laws.proofs.Basics.{and_left, and_right, all_of}
use Rattle.checksums.specs.Sums.{word_size, below, weighted, most_words}

-- words of 32 bits
pub all_words : (ws : List ℕ) → ((k : ℕ) → get_or ws k 0 < word_size) → all (below word_size) ws ≡ true
all_words ws g = all_of (below word_size) ws 0 (λ i l. lt-ltb (get_or ws i 0) word_size (g i))

pub all_drop : (p : ℕ → Bool) (n : ℕ) (ws : List ℕ) → all p ws ≡ true → all p (drop n ws) ≡ true
all_drop p zero ws h = h
all_drop p (suc n) [] h = refl
all_drop p (suc n) (w ∷ ws) h = all_drop p n ws (and_right (p w) (all p ws) h)

all_behind : (p : ℕ → Bool) (xs ys : List ℕ) → all p (xs ++ ys) ≡ true → all p ys ≡ true
all_behind p [] ys h = h
all_behind p (x ∷ xs) ys h = all_behind p xs ys (and_right (p x) (all p (xs ++ ys)) h)

-- the sums of words fit 64 bits
pub sum_fits : (ws : List ℕ) → all (below word_size) ws ≡ true → sum ws ≤ word_size * length ws
sum_fits [] h = omega arith
sum_fits (w ∷ ws) h =
    let p = below word_size in
    omega (arith, ltb-true w word_size (and_left (p w) (all p ws) h), sum_fits ws (and_right (p w) (all p ws) h))

-- 2 ^ 46
abbrev pub sum_size : ℕ
sum_size = 70368744177664

pub weighted_fits : (ws : List ℕ) → all (below word_size) ws ≡ true → length ws ≤ most_words → weighted ws ≤ sum_size * length ws
weighted_fits [] h k = omega arith
weighted_fits (w ∷ ws) h k =
    let p = below word_size in
    omega (arith, sum_fits (w ∷ ws) h, weighted_fits ws (and_right (p w) (all p ws) h) (omega arith))

-- added up from the end: of the words those behind some others
pub record Summed (words others : List ℕ) (end total : ℕ) : Type 0 where
  pub behind : List ℕ
  pub whole : others ++ behind ≡ words
  pub ends : end ≡ sum behind
  pub totals : total ≡ weighted behind

pub summed_none : (words : List ℕ) → Summed words words 0 0
summed_none words = record { behind = []; whole = append-nil words; ends = refl; totals = refl }

-- one word more
pub summed_next : (words others fewer : List ℕ) (w end total : ℕ) → others ≡ fewer ++ (w ∷ []) → Summed words others end total →
    Summed words fewer (end + w) (total + (end + w))
summed_next words others fewer w end total e h =
    record {
      behind = w ∷ h.behind;
      whole = sym (append_assoc fewer (w ∷ []) h.behind) ∙ ap (λ (l : List ℕ). l ++ h.behind) (sym e) ∙ h.whole;
      ends = omega (arith, h.ends);
      totals = omega (arith, h.ends, h.totals);
    }

-- both sums fit 64 bits
pub summed_fits : (words others : List ℕ) (end total : ℕ) → length words ≤ most_words → ((k : ℕ) → get_or words k 0 < word_size) →
    Summed words others end total → (end < 18446744073709551616) × (total < 18446744073709551616)
summed_fits words others end total h g s =
    let b : all (below word_size) s.behind ≡ true = all_behind (below word_size) others s.behind (rw s.whole (all_words words g)) in
    let n : length s.behind ≤ most_words = omega (arith, h, ap length s.whole, length-append others s.behind) in
    (omega (arith, s.ends, sum_fits s.behind b, n), omega (arith, s.totals, weighted_fits s.behind b n, n))

-- no word is left
pub summed_all : (words others : List ℕ) (end total : ℕ) → length others ≡ 0 → Summed words others end total → total ≡ weighted words
summed_all words [] end total e s = s.totals ∙ ap weighted s.whole
summed_all words (x ∷ others) end total e s = absurd (omega arith)
